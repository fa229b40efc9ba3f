use Rattle.std.proofs.Common.{◌≡◌, ℕ, ◌≤◌, Bool, true, length}
use Rattle.std.specs.Prelude.{All}
use Rattle.guard_rows.specs.Places.{GuardPasses}
use Rattle.guard_rows.proofs.rows.note_guard.Given as goal

abbrev pub invariant-loop-term : goal.invariant-loop-term
invariant-loop-term l = record {
  few : length l.inputs.items ≤ 6;
  pass : (passes : ℕ → Bool) → GuardPasses passes l.guard → All (λ n. passes n ≡ true) l.fn.inputs.items → All (λ n. passes n ≡ true) l.inputs.items;
}
