pub mod First
pub mod Pairs
pub mod Beside
pub mod Gathered
pub mod Filled
pub mod Answered
pub mod Told
