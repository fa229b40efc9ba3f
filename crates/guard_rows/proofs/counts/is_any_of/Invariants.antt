use Rattle.std.proofs.Common.{◌≡◌, ℕ, Bool, take}
use Rattle.std.specs.Prelude.{not, ◌&&◌, nat_le}
use Rattle.prs_core.specs.Moves.{guard_holds}
use Rattle.guard_rows.specs.Places.{count_of, overrides}
use Rattle.guard_rows.proofs.counts.is_any_of.Given as goal

abbrev pub invariant-loop-place : goal.invariant-loop-place
invariant-loop-place l = (v : ℕ → Bool) → guard_holds v (take l.place l.terms) ≡
    (nat_le 1 (count_of v (take l.place l.nodes)) && not (overrides v l.over))
