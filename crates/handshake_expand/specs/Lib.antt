pub mod Layout
pub mod Answers
pub mod Named
pub mod PartTree
pub mod Sites
pub mod Expansions
pub mod PartText
pub mod PartLaws
