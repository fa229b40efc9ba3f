use Rattle.net_compose.proofs.NetHolds.{net_holds}
use Rattle.net_compose.proofs.laws.nets_hold.Goals as goal

pub returns : goal.returns
returns c p typed small = net_holds p typed small (record { bits = c.bits_counted.ensures; rules = c.rules_counted.ensures; tree = c.tree_counted.ensures })
