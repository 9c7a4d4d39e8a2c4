pub mod Appending
pub mod Distinct
pub mod Events
pub mod Reading
