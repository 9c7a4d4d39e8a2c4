pub mod Alike
pub mod Ends
pub mod Examples
pub mod HostSteps
pub mod Moves
pub mod NoteExamples
pub mod Steps
pub mod Tried
