pub use Rattle.ctrl_settle.specs.Control
pub use Rattle.ctrl_settle.specs.Settle
pub mod Places
