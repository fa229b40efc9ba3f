pub mod Selections
pub mod Contract
pub mod PortNodes
