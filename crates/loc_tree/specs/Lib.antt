pub mod Tree
pub mod Places
pub mod Laws
pub mod inside
