mod Flags
pub mod Lists
