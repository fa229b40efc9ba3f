pub mod NameKeyLemmas
pub mod NameLemmas
