pub mod Account
pub mod Claims
pub mod Laws
pub mod Worked
