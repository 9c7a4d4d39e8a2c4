mod Around
mod Causes
mod Cuts
pub mod Fitted
pub mod Listings
mod Hulls
mod Logs
mod Made
pub mod Marks
pub mod Moments
mod OneByte
mod Pages
mod Replays
mod Steps
mod Stopped
pub mod Stretches
pub mod Told
