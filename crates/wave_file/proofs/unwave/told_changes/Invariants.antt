use Rattle.std.proofs.Common.{◌≡◌, ◌++◌, drop, length}
use Rattle.wave_file.specs.Unwaved.{told_changes}
use Rattle.wave_file.proofs.unwave.told_changes.Given as goal

abbrev pub invariant-loop-time : goal.invariant-loop-time
invariant-loop-time l = record {
  told : l.to.items ++ told_changes l.names l.values (drop l.time-index l.changes) ≡ l.initial.to.items ++ told_changes l.names l.fn.values l.changes;
  count : length l.values ≡ length l.fn.values;
}
