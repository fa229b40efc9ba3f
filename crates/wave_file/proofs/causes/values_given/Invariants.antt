use Rattle.std.proofs.Common.{◌≡◌, ◌++◌, drop, length}
use Rattle.wave_file.specs.CauseChains.{values_given}
use Rattle.wave_file.proofs.causes.values_given.Given as goal

abbrev pub invariant-loop-made : goal.invariant-loop-made
invariant-loop-made l = record {
  told : l.given.items ++ values_given l.values (drop l.made-index l.moves) ≡ values_given l.fn.values l.moves;
  count : length l.values ≡ length l.fn.values;
}
