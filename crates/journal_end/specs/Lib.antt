pub mod Filed
pub mod Standing
