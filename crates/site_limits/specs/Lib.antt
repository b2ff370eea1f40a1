pub mod Hosted
pub mod Shapes
pub mod Limits
pub mod Knows
