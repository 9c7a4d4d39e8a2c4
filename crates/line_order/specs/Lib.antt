pub mod Acts
pub mod Characters
pub mod Laws
pub mod Line
pub mod Slips
pub mod Worked
