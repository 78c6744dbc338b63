pub mod Past
pub mod Prefix
