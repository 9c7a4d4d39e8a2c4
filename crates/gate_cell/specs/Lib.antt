pub mod Calls
pub mod Cell
pub mod Holds
pub mod Ready
