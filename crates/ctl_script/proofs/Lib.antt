mod Runs
mod Lines
pub mod Saying
mod Boards
