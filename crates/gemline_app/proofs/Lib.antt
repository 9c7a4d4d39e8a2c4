mod Carrying
pub mod Connecting
pub mod Due
mod EquipmentDue
pub mod Equipping
mod FaultsTold
mod FiledAnswered
mod FiledDue
mod FiledFaults
pub mod Filing
mod FittingMade
mod HexLaws
mod HexMeaning
mod HostAnswered
mod HostDue
mod Hosting
mod InputDue
mod InputFaults
mod JournalDue
mod Journaling
mod LinkedAnswered
mod LinkedDue
mod LinkFaults
mod MakeDue
mod ReadBack
mod ReplayDue
mod Replaying
mod Running
mod SpoolDue
pub mod StartBreaks
