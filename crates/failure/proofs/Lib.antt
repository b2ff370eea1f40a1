pub mod Requests
pub mod Detections
