pub mod Formatting
pub mod Showing
pub mod Text
pub mod Told
