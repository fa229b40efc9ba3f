pub mod Ends
pub mod Handshakes
