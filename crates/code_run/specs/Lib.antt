pub mod Posts
pub mod RunFacts
pub mod inside
