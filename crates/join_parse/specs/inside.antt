pub mod Parsed
pub mod Printed
pub mod Automaton
