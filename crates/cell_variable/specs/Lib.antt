pub mod Variables
pub mod VariableParts
