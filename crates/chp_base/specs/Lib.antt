pub mod Faults
pub mod NameKeys
pub mod Names
pub mod Symbols
