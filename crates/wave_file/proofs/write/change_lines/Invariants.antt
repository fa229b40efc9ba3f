use Rattle.std.proofs.Common.{◌≡◌, ℕ, ◌<◌, ◌^◌, ◌++◌, drop, take, length}
use Rattle.std.specs.Prelude.{All}
use Rattle.wave_file.specs.Waves.{change_lines}
use Rattle.wave_file.proofs.write.change_lines.Given as goal

abbrev pub invariant-loop-time : goal.invariant-loop-time
invariant-loop-time l = record {
  told : l.to.items ++ change_lines l.now l.values (drop l.time-index l.changes) ≡ l.initial.to.items ++ change_lines 0 l.fn.values l.changes;
  count : length l.values ≡ length l.fn.values;
  small : All (λ (c : ℕ × ℕ). c.0 < 2 ^ 64) (take l.time-index l.changes);
}
