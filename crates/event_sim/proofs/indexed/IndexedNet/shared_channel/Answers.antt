use Rattle.std.proofs.Common.{refl, ap, length, arith}
use Rattle.std.specs.Prelude.{Some}
use Rattle.env_script.proofs.Wires.{one_each}
use Rattle.event_sim.specs.Locality.{IndexedValue}
use Rattle.event_sim.proofs.HomeLemmas.{home_within}
use Rattle.event_sim.proofs.indexed.IndexedNet.shared_channel.Goals as goal

pub is_nothing-requires : goal.is_nothing-requires
is_nothing-requires c =
    let s = c.args.self.now in
    let within = home_within s.net c.args.node c.in-Some.chan (Some c.in-Some.chan) c.in-Some.ensures.home refl in
    omega (arith, within, one_each s.net s.script c.in-Some.ensures.script, ap (λ (x : IndexedValue). length x.script) c.self.view_is)
