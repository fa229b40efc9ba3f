pub mod Lines
pub mod Heads
pub mod Cores
pub mod Circuit
pub mod Whole
pub mod Bounds
pub mod Carried
pub mod Within
