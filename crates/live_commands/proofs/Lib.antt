pub mod Cutting
pub mod FaultsStand
pub mod Finding
pub mod Fitting
pub mod Going
pub mod Kept
pub mod Rows
pub mod Whole
