pub mod RoundParts
pub mod Rows
