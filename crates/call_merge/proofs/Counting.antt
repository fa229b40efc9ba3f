-- A sum that stops at the greatest number of 64 bits, when no summand is left.
use Rattle.std.proofs.Common.{◌≡◌, ℕ, ◌+◌, ◌<◌, ◌^◌, arith}
use Rattle.call_merge.specs.CallForms.{capped_forms}

pub counted_none : (old whole : ℕ) → capped_forms (old + 0) ≡ whole → old < 2 ^ 64 → old ≡ whole
counted_none old whole so_far small = omega (arith, so_far, small)
