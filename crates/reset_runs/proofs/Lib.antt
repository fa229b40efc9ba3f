pub mod Driving
pub mod High
pub mod Fallen
pub mod Whole
