pub mod Sample
pub mod Closures
pub mod Words
