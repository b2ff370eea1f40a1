pub mod Read
pub mod Ending
pub mod Ended
