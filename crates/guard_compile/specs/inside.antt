pub mod Drawing
pub mod Appends
pub mod Counted
