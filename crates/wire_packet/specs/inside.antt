pub mod Ids
pub mod Reading
