mod Cells
pub mod Values
