pub mod Frames
pub mod Headers
pub mod Parts
