use Rattle.std.proofs.Common.{◌≡◌, ℕ, ◌<◌, ◌^◌, take}
use Rattle.std.specs.Prelude.{All}
use Rattle.wave_file.specs.RunWaves.{timed_changes}
use Rattle.wave_file.proofs.of_run.changes_of_moves.Given as goal

abbrev pub invariant-loop-made : goal.invariant-loop-made
invariant-loop-made l = record {
  told : l.changes.items ≡ timed_changes (take l.made-index l.moves);
  small : All (λ (c : ℕ × ℕ). c.0 < 2 ^ 64) l.changes.items;
}
