pub mod Deliveries
pub mod Sending
