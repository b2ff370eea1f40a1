pub mod Picks
pub mod Fronts
pub mod Ready
pub mod Sending
pub mod Reacting
pub mod Reacted
pub mod Opens
pub mod inside
