pub mod Bodies
pub mod ChangeFunctions
pub mod CountedChanges
mod KeptSetup
mod Latest
pub mod Lines
mod LinkedReports
mod Notes
mod Past
mod RemoteAnswers
mod ReportTables
mod Requests
mod SameItems
mod SettledConstants
mod SettledEnables
mod WorkedSetup
