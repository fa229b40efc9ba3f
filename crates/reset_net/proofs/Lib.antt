pub mod Guards
mod Laid
mod Taken
pub mod Whole
