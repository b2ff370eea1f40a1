pub mod Replaces
pub mod inside
