pub mod Trees
pub mod TreeParts
pub mod Sizes
