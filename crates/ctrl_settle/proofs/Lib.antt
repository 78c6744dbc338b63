pub mod Grid
pub mod Masks
pub mod Settling
pub mod WellFormed
