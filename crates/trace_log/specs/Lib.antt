pub mod Commands
pub mod Delivered
pub mod InStep
pub mod Laws
pub mod Log
pub mod Names
pub mod Text
