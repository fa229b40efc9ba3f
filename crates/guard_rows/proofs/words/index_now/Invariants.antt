use Rattle.std.proofs.Common.{◌≡◌, drop}
use Rattle.prs_core.specs.Moves.{high}
use Rattle.guard_rows.specs.Places.{index_of}
use Rattle.guard_rows.proofs.words.index_now.Given as goal

abbrev pub invariant-loop-place : goal.invariant-loop-place
invariant-loop-place l = l.index ≡ index_of (high l.state) (drop l.place l.inputs)
