pub mod History
pub mod Kept
pub mod Laws
pub mod Period
pub mod Settings
pub mod Traces
pub mod Worked
