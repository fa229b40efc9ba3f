pub mod NamedReset
pub mod BodyCounts
pub mod Promised
pub mod Compiled
pub mod Counted
pub mod Pouring
pub mod OneWritten
