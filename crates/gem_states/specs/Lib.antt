pub mod Comms
pub mod Control
