pub mod Faults
pub mod Keys
