use Rattle.std.proofs.Common.{arith}
use Rattle.event_sim.proofs.Words.{none_drawn}
use Rattle.event_sim.proofs.random.Random.new.Goals as goal

pub invariant_of-result : goal.invariant_of-result
invariant_of-result c = record {
  since = omega arith;
  drawn = rw c.new.ensures (none_drawn 64 _ _ _ (omega arith));
}
