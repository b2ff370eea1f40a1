pub mod Passes
pub mod Beside
pub mod Tied
pub mod Firsts
pub mod Gathered
pub mod Answer
pub mod Told
pub mod SameSorts
