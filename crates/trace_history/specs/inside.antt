pub mod Holds
pub mod Search
pub mod Crosses
pub mod Passed
pub mod Looked
pub mod Chosen
pub mod Causes
