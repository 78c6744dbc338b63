pub use Rattle.sample_device.specs.Sample
pub mod Bindings
pub mod Asks
pub mod Lines
pub mod Run
pub mod Board
