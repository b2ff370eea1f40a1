pub mod Verdict
pub mod Command
pub mod inside
