-- The bounds of widths and values, by a short name, for the function that computes values.
pub use Rattle.width_check.proofs.Bounds.{value_fits, width_some, width_most}
