pub mod Spool
pub mod Standing
pub mod Updates
pub mod Works
pub mod Oldest
