pub mod Endings
pub mod Left
pub mod Starting
