pub mod Requests
pub mod Refusals
pub mod Objects
pub mod Alike
pub mod Named
