pub mod Bodies
pub mod Capture
pub mod Laws
pub mod Lines
pub mod Messages
pub mod Show
