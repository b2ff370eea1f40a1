pub mod Drawn
pub mod Names
pub mod PouredBy
