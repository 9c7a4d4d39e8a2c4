pub mod Laws
pub mod Listed
pub mod Worked
pub mod WorkedNotes
