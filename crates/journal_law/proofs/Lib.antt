pub mod Fronts
pub mod Keeping
pub mod Numbers
pub mod Quiet
pub mod Steps
pub mod Worked
