pub mod Forecasts
pub mod Sparse
pub mod Kept
pub mod Seen
pub mod Renewal
pub mod Boards
