pub mod Examples
pub mod Levels
pub mod Grown
pub mod Joins
pub mod Settling
pub mod TreeKeeps
pub mod WrongTrees
