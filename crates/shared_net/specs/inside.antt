pub mod Receives
pub mod Crosses
pub mod Beginning
pub mod Walk
pub mod Closes
pub mod TurnParts
