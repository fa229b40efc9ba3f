pub mod Handshakes
pub mod Sequence
