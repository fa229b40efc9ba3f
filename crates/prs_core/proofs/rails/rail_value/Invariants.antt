use Rattle.std.proofs.Common.{◌≡◌, ◌*◌, ◌-◌, ◌<◌, ◌^◌, drop, Some}
use Rattle.prs_core.specs.Moves.{rail_value_of, high}
use Rattle.prs_core.proofs.rails.rail_value.Given as goal

abbrev pub invariant-loop-bit : goal.invariant-loop-bit
invariant-loop-bit l = record {
  value : rail_value_of (high l.state) (drop (2 * l.bit) l.rails) ≡ Some l.value;
  small : l.value < 2 ^ (64 - l.bit);
}
