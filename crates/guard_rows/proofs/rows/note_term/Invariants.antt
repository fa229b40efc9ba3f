use Rattle.std.proofs.Common.{◌≡◌, ℕ, ◌≤◌, Bool, true, length}
use Rattle.std.specs.Prelude.{All}
use Rattle.guard_rows.specs.Places.{AllPass}
use Rattle.guard_rows.proofs.rows.note_term.Given as goal

abbrev pub invariant-loop-literal : goal.invariant-loop-literal
invariant-loop-literal l = record {
  few : length l.inputs.items ≤ 6;
  pass : (passes : ℕ → Bool) → AllPass passes l.term → All (λ n. passes n ≡ true) l.fn.inputs.items → All (λ n. passes n ≡ true) l.inputs.items;
}
