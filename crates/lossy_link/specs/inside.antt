pub mod Table
pub mod Queue
pub mod Parted
pub mod Ending
pub mod Settling
