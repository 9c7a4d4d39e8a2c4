pub mod Filing
pub mod Live
