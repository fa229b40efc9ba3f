pub mod Boxes
pub mod Peers
pub mod HandedIn
pub mod OnBench
pub mod Asked
pub mod PreparedRuns
