pub mod Bounds
pub mod Controls
pub mod Limits
pub mod Names
pub mod Reading
