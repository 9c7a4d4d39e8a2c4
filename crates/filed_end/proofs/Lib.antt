pub mod Anew
pub mod Asking
pub mod Reaching
pub mod StepEnds
