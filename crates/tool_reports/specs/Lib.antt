pub mod Histories
pub mod Laws
pub mod LookedBack
pub mod Reported
pub mod Sampled
pub mod WorkedReports
pub mod WorkedSampled
pub mod WorkedSettings
