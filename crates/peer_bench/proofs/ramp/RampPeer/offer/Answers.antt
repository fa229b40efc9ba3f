use Rattle.std.proofs.Common.{◌∙◌, sym, ap}
use Rattle.peer_bench.specs.Devices.{NotedValue, up_to_ten}
use Rattle.peer_bench.proofs.Counted.{counts_offered}
use Rattle.peer_bench.proofs.ramp.RampPeer.offer.Goals as goal

pub invariant_of-self : goal.invariant_of-self
invariant_of-self c =
    rw c.set_count.ensures (counts_offered c.self.inside.log.items c.push_reserved.new.self.items c.self.inside.counts.items c.offers-offers.result c.args.at
    c.args.chan _ c.self.invariant (c.offers-offers.ensures ∙ ap (λ (v : NotedValue). up_to_ten c.args.chan v.log) (sym c.self.view_is))
    c.if-offers-eq10.false c.push_reserved.ensures.items)
