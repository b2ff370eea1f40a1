pub mod Reading
pub mod Tables
pub mod ReadLog
pub mod Bounds
pub mod Later
