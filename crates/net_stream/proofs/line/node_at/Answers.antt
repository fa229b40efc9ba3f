use Rattle.std.proofs.Common.{◌<◌, length, ap, arith}
use Rattle.net_stream.proofs.PlaceSteps.{node_made}
use Rattle.net_stream.proofs.line.node_at.Goals as goal

pub returns-clause-made : goal.returns-clause-made
returns-clause-made c =
    let within : c.args.node < length c.args.net.now.first =
    omega (arith, c.if-node-first.false, ap length c.first-first.ensures.first, c.requires) in
    let line = rw (c.name.ensures.value, c.first-first.ensures.first) at c.in_ok-node_line.ensures.ok in
    node_made c.args.net.now c.args.node c.args.to.now.items c.node_line.new.to.items within line
