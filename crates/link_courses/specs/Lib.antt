pub mod Courses
pub mod Equipment
pub mod Host
pub mod Lawful
pub mod Noting
pub mod Tool
pub mod Worked
