pub mod Task
pub mod Printed
pub mod RunJoin
pub mod inside
