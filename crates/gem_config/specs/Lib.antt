pub mod Found
pub mod Others
pub mod Plans
pub mod Reading
pub mod Rows
pub mod Sections
pub mod Values
pub mod Words
