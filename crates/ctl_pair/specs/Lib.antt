pub mod Pair
pub mod Scripts
pub mod Client
