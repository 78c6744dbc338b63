pub mod Data
pub mod Limits
pub mod Members
pub mod Relations
pub mod Words
