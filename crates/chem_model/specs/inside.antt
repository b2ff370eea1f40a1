pub mod Poured
