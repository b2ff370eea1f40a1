pub mod Schedule
pub mod Run
pub mod Rounds
pub mod Free
pub mod inside
