use Rattle.net_compose.proofs.Sizes.{all_counted}
use Rattle.net_compose.proofs.laws.all_counted.Goals as goal

pub returns : goal.returns
returns c = all_counted (record { bits = c.bits_counted.ensures; rules = c.rules_counted.ensures; tree = c.tree_counted.ensures })
