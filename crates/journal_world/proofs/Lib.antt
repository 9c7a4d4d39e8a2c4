pub mod Claims
pub mod Disks
pub mod FewCalls
pub mod Listing
pub mod SafeRuns
pub mod SoFar
