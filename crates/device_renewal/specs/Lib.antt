pub mod Alike
pub mod Quiet
pub mod Words
