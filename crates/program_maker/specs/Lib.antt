pub mod Drawn
pub mod Generated
