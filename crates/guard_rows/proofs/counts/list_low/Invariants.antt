use Rattle.std.proofs.Common.{◌≡◌, ℕ, Bool, true, take}
use Rattle.std.specs.Prelude.{◌==◌, All}
use Rattle.prs_core.specs.Moves.{term_holds}
use Rattle.guard_rows.specs.Places.{count_of, AllPass}
use Rattle.guard_rows.proofs.counts.list_low.Given as goal

abbrev pub invariant-loop-literal : goal.invariant-loop-literal
invariant-loop-literal l = record {
  holds : (v : ℕ → Bool) → term_holds v (take l.literal-index l.literal-items) ≡ (count_of v l.nodes.items == 0);
  pass : (passes : ℕ → Bool) → AllPass passes l.term → All (λ n. passes n ≡ true) l.nodes.items;
}
