pub mod Pieces
pub mod StatusKinds
