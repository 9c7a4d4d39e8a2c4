pub mod Answering
pub mod Groups
pub mod History
pub mod Passes
pub mod Reading
pub mod Settling
