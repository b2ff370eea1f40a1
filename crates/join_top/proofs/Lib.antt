pub mod Made
pub mod Leaving
pub mod Long
pub mod Reading
pub mod Stopping
pub mod OneRun
pub mod Logs
