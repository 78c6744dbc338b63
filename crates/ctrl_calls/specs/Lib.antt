pub use Rattle.ctrl_types.specs.Values
pub mod Counts
pub mod Meanings
pub mod Rows
pub mod Fitting
pub mod Forms
