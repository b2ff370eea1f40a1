pub mod Reading
pub mod Told
pub mod Places
pub mod Judging
