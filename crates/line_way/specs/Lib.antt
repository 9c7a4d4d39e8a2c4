pub mod Kept
pub mod Slip
pub mod Step
pub mod Ways
