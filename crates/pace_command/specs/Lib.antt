pub mod Targets
pub mod FirstNames
pub mod WayTexts
pub mod Pacing
pub mod Names
pub mod Kept
pub mod Ends
