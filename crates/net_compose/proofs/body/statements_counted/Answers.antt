use Rattle.net_compose.proofs.Sizes.{statement_length, bodies_length}
use Rattle.net_compose.proofs.body.statements_counted.Goals as goal

pub returns-clause-statements : goal.returns-clause-statements
returns-clause-statements c = statement_length (record { bits = c.bits_counted.ensures; rules = c.rules_counted.ensures; tree = c.tree_counted.ensures })

pub returns-clause-bodies : goal.returns-clause-bodies
returns-clause-bodies c = bodies_length (record { bits = c.bits_counted.ensures; rules = c.rules_counted.ensures; tree = c.tree_counted.ensures })
