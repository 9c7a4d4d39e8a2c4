pub mod Block
pub mod Fault
pub mod Frame
pub mod Header
pub mod Laws
pub mod Protocol
