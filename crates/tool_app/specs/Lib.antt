pub mod Names
pub mod Outcome
pub mod Run
pub mod Tool
