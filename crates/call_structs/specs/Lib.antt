pub mod Entries
pub mod Told
