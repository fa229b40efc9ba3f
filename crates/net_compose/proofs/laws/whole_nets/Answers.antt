use Rattle.std.proofs.Common.{arith}
use Rattle.net_compose.proofs.NodesWithin.{rules_hold}
use Rattle.net_compose.proofs.laws.whole_nets.Goals as goal

pub returns : goal.returns
returns c p typed small =
    c.nets_hold.ensures p typed small
    (rules_hold p typed (record { bits = c.bits_counted.ensures; rules = c.rules_counted.ensures; tree = c.tree_counted.ensures }) (omega (arith, small)))
