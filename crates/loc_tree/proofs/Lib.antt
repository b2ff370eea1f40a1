pub mod Spots
pub mod Standings
pub mod Alive
pub mod Follows
pub mod Newest
pub mod Keeps
pub mod Sound
pub mod Away
