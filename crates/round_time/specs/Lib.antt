pub mod Longest
pub mod Phases
pub mod Sums
pub mod Ways
