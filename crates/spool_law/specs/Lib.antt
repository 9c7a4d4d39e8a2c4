pub mod Journal
pub mod Listing
pub mod Shelf
pub mod Tries
