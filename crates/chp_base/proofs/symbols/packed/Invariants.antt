use Rattle.std.proofs.Common.{◌≡◌, ◌*◌, ◌-◌, ◌<◌, ◌^◌, drop}
use Rattle.chp_base.specs.NameKeys.{packed}
use Rattle.chp_base.proofs.symbols.packed.Given as goal

abbrev pub invariant-loop-place : goal.invariant-loop-place
invariant-loop-place l = record {
  number : l.number ≡ packed (drop l.place l.bytes);
  small : l.number < 2 ^ (8 * (16 - l.place));
}
