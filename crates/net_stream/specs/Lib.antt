pub mod Places
pub mod Rooms
pub mod Cursors
pub mod Led
