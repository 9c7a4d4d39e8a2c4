pub mod Laws
pub mod Putting
pub mod Sound
pub mod SpentSteps
pub mod Tried
pub mod WorkedSpent
