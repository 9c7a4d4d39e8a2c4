mod Beside
pub mod Coming
pub mod Counting
pub mod Doing
pub mod Joining
pub mod NoDisk
pub mod Polling
pub mod Sides
pub mod Starting
pub mod Stepping
pub mod Turning
