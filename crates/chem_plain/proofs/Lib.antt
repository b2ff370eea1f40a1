pub mod Fills
pub mod Drops
pub mod Received
pub mod Finds
