pub mod Loops
pub mod Wires
pub mod Numerals
pub mod Places
pub mod NameTables
pub mod OneMore
pub mod MadeScripts
pub mod ReadLines
pub mod OneReading
pub mod Sayings
pub mod Comments
pub mod Commuting
pub mod Fronts
pub mod Overtakes
mod SweepExamples
pub mod MovesWithin
