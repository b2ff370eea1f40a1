pub mod Order
pub mod Blocks
pub mod Uses
pub mod Faults
pub mod Numbers
pub mod Stands
pub mod Checked
pub mod inside
