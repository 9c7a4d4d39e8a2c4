mod Asking
pub mod AtOnce
pub mod Behind
mod Bodies
mod Carried
mod Claims
mod CutStarts
mod CutSteps
pub mod Disks
mod Emptied
pub mod Events
pub mod FewCalls
mod Lines
mod Made
pub mod Noted
pub mod NotedSteps
pub mod OrderSoFar
mod OverStarts
pub mod Replies
mod RoundEvents
mod SampledLog
pub mod SoFar
pub mod Spool
mod Summed
mod Tries
