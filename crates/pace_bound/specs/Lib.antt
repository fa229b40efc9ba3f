pub mod Bits
pub mod Behind
pub mod Clearing
pub mod Noting
pub mod Halving
pub mod Summing
pub mod Whereabouts
