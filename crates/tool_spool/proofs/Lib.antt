pub mod CalmCommands
pub mod CalmParts
pub mod CalmSamples
pub mod CalmTurns
pub mod Chained
pub mod FromStarts
pub mod Interrupted
pub mod KeptLedger
pub mod KeptParts
pub mod KeptSetups
pub mod KeptSpool
pub mod KeptStarts
pub mod KeptUnload
pub mod LastWorks
pub mod PairedLines
pub mod RestedShelves
mod SetupCourse
mod SetupFiles
mod SetupLosses
pub mod Shelved
pub mod ShelvedTurns
pub mod SpoolCommands
pub mod SpoolMessages
pub mod SpoolTurns
pub mod SpoolUnloads
pub mod StillLines
pub mod TakenTurns
pub mod TriedRuns
pub mod UnloadOpen
pub mod UsedRoom
