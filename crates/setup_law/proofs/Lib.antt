pub mod Notes
pub mod Tables
mod WorkedSetups
