pub mod SamePair
pub mod Hosting
pub mod Learned
pub mod Stays
pub mod Repeated
pub mod Tested
