mod Agreement
mod Arrivals
mod Deadlines
mod Distinct
pub mod Firsts
mod Fitting
mod Found
mod Growing
mod Judging
mod Kept
pub mod Keys
pub mod Making
mod Missed
mod Numbered
mod Opening
pub mod Places
mod Queue
pub mod Standing
