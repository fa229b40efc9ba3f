use Rattle.std.proofs.Common.{arith}
use Rattle.event_sim.proofs.Words.{none_drawn}
use Rattle.event_sim.proofs.random.RandomPicker.seed.Goals as goal

pub invariant_of-self : goal.invariant_of-self
invariant_of-self c = record {
  since = omega arith;
  drawn = rw c.new-self.ensures (none_drawn 64 _ _ _ (omega arith));
}
