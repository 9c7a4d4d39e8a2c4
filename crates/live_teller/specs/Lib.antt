pub mod Callers
pub mod Came
pub mod Stages
pub mod Tellings
