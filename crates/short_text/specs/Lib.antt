pub mod Name
pub mod Shown
