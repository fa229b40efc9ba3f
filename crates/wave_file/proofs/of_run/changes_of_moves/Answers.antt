use Rattle.std.proofs.Common.{ℕ, ◌<◌, ◌^◌, List, sym, subst, arith}
use Rattle.std.specs.Prelude.{All}
use Rattle.std.proofs.lemmas.Grind.{common_steps}
use Rattle.std.proofs.lemmas.List.Elements.{All-push}
use Rattle.wave_file.proofs.of_run.changes_of_moves.Goals as goal

pub loop-made-preserved : goal.loop-made-preserved
loop-made-preserved c = record {
  told = grind (arith, common_steps);
  small = subst (λ (cs : List (ℕ × ℕ)). All (λ (c : ℕ × ℕ). c.0 < 2 ^ 64) cs) (sym c.in_ok-push.ensures.items)
      (All-push (λ (c : ℕ × ℕ). c.0 < 2 ^ 64) c.loop-made.changes.items c.change_at.result c.loop-made.invariant.small c.change_at.ensures.small);
}
