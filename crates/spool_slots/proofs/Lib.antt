mod Celled
mod CellWrites
mod Changes
pub mod Carrying
pub mod Closed
pub mod Dropped
mod Fits
mod Found
mod GatesLeft
mod Going
mod Joined
pub mod Kept
mod Lasting
mod Looking
pub mod Lost
mod LostCells
mod Losing
mod Marks
pub mod Moves
mod OneByte
mod Parts
mod Putting
mod Rows
pub mod Settling
mod Setups
mod Shuts
mod StagedPuts
mod Upgrading
mod Versions
