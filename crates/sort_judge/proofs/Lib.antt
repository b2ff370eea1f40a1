pub mod Read
pub mod Ending
pub mod Ended
pub mod OneVerdict
pub mod Said
