pub mod Delivering
pub mod Happening
