pub mod Twin
pub mod FaultList
pub mod Clashes
pub mod Naming
pub mod Shown
pub mod Order
