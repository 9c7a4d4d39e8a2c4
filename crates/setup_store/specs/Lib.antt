pub mod Copies
pub mod Entries
pub mod Kept
pub mod Laws
pub mod OnDisk
pub mod Worked
