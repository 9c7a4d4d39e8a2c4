pub mod History
pub mod Rows
