pub mod Bodies
pub mod Compiling
pub mod Streamed
pub mod Migrating
pub mod Checking
pub mod Expanding
pub mod RepliesTold
