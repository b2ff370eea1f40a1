pub mod Brought
pub mod Linked
