pub mod Coming
pub mod Crosses
pub mod Opening
