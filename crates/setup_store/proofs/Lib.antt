mod Breaks
mod Copied
mod KeptEntries
mod Loaded
mod Named
mod ReadLists
mod WholeKeeps
pub mod WorkedLists
