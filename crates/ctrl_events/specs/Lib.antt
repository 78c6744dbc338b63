pub mod Events
pub mod Pending
pub mod Order
pub mod Queue
pub mod Files
pub mod Heard
