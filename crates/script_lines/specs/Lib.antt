pub mod ControlWords
pub mod Commands
pub mod Lexemes
pub mod Names
pub mod Dividing
pub mod Walking
