pub mod OneBenches
pub mod PeerNames
pub mod Staying
pub mod Named
pub mod Running
pub mod BenchStopping
pub mod PeersPassed
