use Rattle.std.proofs.Common.{◌≡◌, ℕ, ◌+◌, ◌<◌, length, get_or, take}
use Rattle.guard_rows.specs.Places.{total_to}
use Rattle.guard_rows.proofs.rows.lower.Given as goal

abbrev pub invariant-loop-row : goal.invariant-loop-row
invariant-loop-row l = record {
  count : length l.places ≡ length l.fn.places;
  places : (r : ℕ) → r < length l.fn.places → get_or l.places r 0 + total_to r (take l.row-index l.edges) ≡ get_or l.fn.places r 0;
}
