pub mod Answers
pub mod Asked
pub mod Elements
pub mod Laws
pub mod Parts
pub mod Primaries
pub mod Requests
