use Rattle.std.proofs.Common.{◌≡◌, ℕ, Bool, take}
use Rattle.std.specs.Prelude.{nat_le}
use Rattle.prs_core.specs.Moves.{term_holds}
use Rattle.guard_rows.specs.Places.{count_of}
use Rattle.guard_rows.proofs.counts.is_all_of.Given as goal

abbrev pub invariant-loop-place : goal.invariant-loop-place
invariant-loop-place l = (v : ℕ → Bool) → term_holds v (take l.place l.literals) ≡ nat_le l.place (count_of v (take l.place l.nodes))
