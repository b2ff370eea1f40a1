pub mod Differ
pub mod Parts
