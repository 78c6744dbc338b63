pub mod Views
pub mod Calls
pub mod Runs
pub mod Seated
pub mod Rule
pub mod Plays
pub mod Working
pub mod Ending
