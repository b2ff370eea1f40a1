pub mod Command
pub mod Modes
