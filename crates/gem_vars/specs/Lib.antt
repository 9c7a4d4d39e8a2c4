pub mod History
pub mod Laws
pub mod Listing
pub mod Plan
pub mod Settings
pub mod Tables
