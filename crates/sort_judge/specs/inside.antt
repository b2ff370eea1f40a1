pub mod Ends
pub mod Said
