pub mod Progress
pub mod Left
pub mod Apart
