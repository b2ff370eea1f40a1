pub mod Lines
pub mod Contents
pub mod Faults
pub mod Outcomes
pub mod inside
