pub mod Walks
pub mod RowLemmas
pub mod Removal
pub mod Messages
