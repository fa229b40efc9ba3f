pub mod Orders
pub mod LeastLemmas
pub mod TableLemmas
pub mod Pairs
mod Refusals
pub mod Telling
pub mod Members
