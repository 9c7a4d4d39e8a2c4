pub mod Faults
pub mod Grammar
pub mod Names
pub mod Nexts
pub mod Numbers
pub mod Printing
pub mod Reading
pub mod Text
