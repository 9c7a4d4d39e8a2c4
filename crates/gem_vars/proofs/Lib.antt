mod Accepted
mod Constants
mod History
mod Kept
mod Sizes
