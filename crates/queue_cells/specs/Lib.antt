pub mod Grouped
pub mod Messages
pub mod inside
