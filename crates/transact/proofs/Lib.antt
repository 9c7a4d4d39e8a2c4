mod Draws
pub mod Firsts
mod History
pub mod Kept
pub mod Places
