pub mod BrokenList
pub mod BrokenPasses
pub mod BrokenPuts
pub mod BrokenWorks
pub mod CallPlaces
pub mod Called
pub mod Counted
pub mod EachLoss
pub mod EachFront
mod EachUpdate
pub mod FoundLosses
pub mod HandingBack
mod Joining
pub mod KeepCalls
pub mod LossCounts
pub mod OwedLosses
pub mod OwedWorks
pub mod WorkedCalls
mod WorkedKeeps
