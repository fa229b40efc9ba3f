use Rattle.peer_bench.proofs.Holding.{echo_ready}
use Rattle.peer_bench.proofs.echo.EchoPeer.ready.Goals as goal

pub invariant_of-self : goal.invariant_of-self
invariant_of-self c =
    echo_ready c.self.inside.log.items c.push_reserved.new.self.items c.self.inside.held c.self.inside.offers c.args.at c.args.chan c.self.invariant
    c.push_reserved.ensures.items
