use Rattle.std.proofs.Common.{length, ap, arith}
use Rattle.env_script.proofs.Wires.{one_each}
use Rattle.event_sim.specs.Locality.{IndexedValue}
use Rattle.event_sim.proofs.indexed.IndexedNet.number.Goals as goal

pub number-requires : goal.number-requires
number-requires c =
    let x = c.self.inside in
    omega (arith, c.requires, one_each x.net x.offers c.self.invariant.script, ap (λ (y : IndexedValue). length y.net.channels) c.self.view_is)
