pub mod Chains
mod Cutting
mod Dumps
mod Examples
mod Followed
mod Fronts
mod IdLemmas
mod KeptWaves
mod Namings
mod Numbers
mod OneReading
mod Printing
mod Reached
mod Readings
mod Stepping
pub mod TimedWaves
mod WaveTexts
