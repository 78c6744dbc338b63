pub mod Calls
pub mod Ids
pub mod Lists
pub mod Session
