pub mod CauseChains
pub mod RunWaves
pub mod Unwaved
pub mod WaveFaults
pub mod WaveLines
pub mod WaveReading
pub mod WaveTold
pub mod Waves
