use Rattle.std.proofs.Common.{◌≤◌, length}
use Rattle.wave_file.proofs.Chains.{IsBackTo}
use Rattle.wave_file.proofs.causes.cause_chain.Given as goal

abbrev pub invariant-loop-number : goal.invariant-loop-number
invariant-loop-number l = record {
  within : l.number ≤ length l.moves;
  back : IsBackTo l.moves l.number l.places.items;
}

abbrev pub decreases-loop-number : goal.decreases-loop-number
decreases-loop-number l = l.number
