pub mod OneRounds
pub mod RoundsReported
pub mod RoundsStopping
pub mod ProgramChannels
