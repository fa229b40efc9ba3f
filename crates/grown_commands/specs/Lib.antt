pub mod Summing
pub mod Growing
