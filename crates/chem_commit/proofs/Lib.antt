pub mod Firsts
pub mod Moves
pub mod Founds
pub mod Entries
pub mod Picking
