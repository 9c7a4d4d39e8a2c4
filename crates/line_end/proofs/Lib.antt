pub mod Arrivals
pub mod ByTest
pub mod Clean
pub mod Framed
pub mod Kept
pub mod Small
pub mod Tries
pub mod Written
