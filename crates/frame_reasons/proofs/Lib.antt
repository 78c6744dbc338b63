pub mod FrameReasons
pub mod Refusals
