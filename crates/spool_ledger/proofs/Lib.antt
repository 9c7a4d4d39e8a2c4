pub mod Following
pub mod Keeping
pub mod Limits
pub mod Removing
pub mod Widths
