pub mod CheckLaws
mod CheckedViews
mod ElementLoop
mod FaultPlaces
pub mod Faults
mod HeadLaws
mod HeadStops
mod ItemLaws
mod ItemLoop
mod ItemSteps
mod Layers
mod Least
mod Leaves
mod Lengths
mod Numbers
mod OpenLists
mod Passing
pub mod RangeLaws
pub mod Rows
mod Shortest
pub mod SpellLaws
pub mod SpelledLengths
mod Stops
pub mod Verdicts
mod ViewSteps
mod Viewing
mod Written
