pub mod Leasts
pub mod Places
pub mod Tells
