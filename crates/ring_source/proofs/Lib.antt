pub mod Appends
pub mod Loops
