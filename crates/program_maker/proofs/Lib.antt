pub mod Counted
pub mod Words
pub mod Examples
