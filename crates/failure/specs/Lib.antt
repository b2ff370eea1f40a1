pub mod Halts
pub mod Deaths
pub mod Detects
