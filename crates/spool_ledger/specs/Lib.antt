pub mod Activity
pub mod Laws
pub mod Ledger
pub mod Sizes
pub mod Storing
pub mod Unloading
pub mod Worked
