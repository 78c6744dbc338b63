pub use Rattle.ctrl_types.specs.Values
pub mod Control
pub mod Grid
pub mod Settle
pub mod Faults
pub mod FirstFault
