pub mod Begun
pub mod Job
pub mod Ran
