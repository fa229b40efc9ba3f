mod LongestExamples
mod CallExamples
mod SumExamples
pub mod WaysLengths
mod WaysExamples
