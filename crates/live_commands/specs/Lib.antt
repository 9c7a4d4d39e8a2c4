pub mod Coming
pub mod Commands
pub mod ItemPlaces
pub mod Laws
pub mod Places
pub mod Worked
