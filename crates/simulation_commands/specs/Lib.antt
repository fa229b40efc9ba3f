pub mod Simulating
pub mod Asked
pub mod Timing
pub mod Tracing
pub mod Unwaving
