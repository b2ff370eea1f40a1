pub mod Kept
pub mod First
pub mod Book
pub mod Crosses
pub mod Left
pub mod Given
pub mod inside
