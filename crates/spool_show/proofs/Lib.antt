mod Lists
mod MessageLines
mod Pieces
mod Putting
mod ShownFiles
pub mod SpoolFiles
