pub mod Moods
pub mod Ways
