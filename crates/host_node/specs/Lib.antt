pub mod Calls
pub mod Host
pub mod Lawful
pub mod Replies
pub mod Spelled
