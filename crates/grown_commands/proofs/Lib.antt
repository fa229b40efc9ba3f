pub mod OneSums
pub mod Summed
pub mod SafeRuns
mod CalmSummary
