pub mod Arrived
pub mod Looks
pub mod Waits
