pub mod Alarms
pub mod History
pub mod Laws
pub mod Plan
