use Rattle.std.proofs.Common.{◌≡◌, ◌-◌, ◌<◌, ◌≤◌, length, drop}
use Rattle.wave_file.specs.WaveLines.{id_value}
use Rattle.wave_file.proofs.id.node_of.Given as goal

abbrev pub invariant-loop-at : goal.invariant-loop-at
invariant-loop-at l = record {
  value : l.number ≡ id_value (drop (length l.id - l.at) l.id);
  small : l.number ≤ 65536;
  below : 0 < l.at → l.number < l.nodes;
}
