pub mod Table
pub mod Crosses
