use Rattle.net_stream.proofs.PlaceSteps.{up_made}
use Rattle.net_stream.proofs.line.up_at.Goals as goal

pub returns-clause-made : goal.returns-clause-made
returns-clause-made c =
    up_made c.args.net.now c.args.node c.args.to.now.items c.rule_line.new.to.items c.requires c.in_ok-rule_line.ensures.ok
