pub mod Captures
mod Existence
mod Putting
mod Showing
mod ShownBodies
