pub mod First
pub mod Looking
pub mod Putting
