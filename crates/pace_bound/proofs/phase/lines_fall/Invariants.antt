use Rattle.std.proofs.Common.{◌≡◌, ℕ, ◌+◌, ◌<◌, length}
use Rattle.std.specs.Prelude.{max, slice_index}
use Rattle.handshake_expand.specs.Layout.{capped}
use Rattle.pace_bound.proofs.phase.lines_fall.Given as goal

abbrev pub invariant-loop-place : goal.invariant-loop-place
invariant-loop-place l = record {
  sized : length l.table.items ≡ l.place;
  each : (k : ℕ) → k < l.place → slice_index l.table.items k ≡
      capped (max (2 + slice_index l.lines.acks.items k) (1 + slice_index l.lines.rails.items k));
}
