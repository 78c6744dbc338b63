pub mod Wanted
pub mod Followed
