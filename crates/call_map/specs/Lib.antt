pub mod Shared
pub mod Carrying
pub mod Calling
pub mod CallsApart
pub mod CallNet
pub mod CallPace
