pub mod Asked
pub mod Forms
pub mod Laws
pub mod Numbers
pub mod Told
pub mod Words
pub mod Worked
