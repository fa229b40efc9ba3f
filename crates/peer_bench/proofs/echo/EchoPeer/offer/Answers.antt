use Rattle.peer_bench.proofs.Holding.{echo_offered}
use Rattle.peer_bench.proofs.echo.EchoPeer.offer.Goals as goal

pub invariant_of-self : goal.invariant_of-self
invariant_of-self c =
    echo_offered c.self.inside.log.items c.push_reserved.new.self.items c.self.inside.held c.self.inside.offers c.args.at c.args.chan _ c.self.invariant
    c.push_reserved.ensures.items
