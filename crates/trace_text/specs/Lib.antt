pub mod TraceText
pub mod LogText
pub mod Fields
pub mod LogFields
pub mod Bounds
pub mod Printed
pub mod ReadLog
pub mod inside
