pub mod Raises
pub mod Within
