use Rattle.chp_syntax.proofs.Rows.{then_tree, beside_tree}
use Rattle.chp_syntax.proofs.parser.statement.group_of.Goals as goal

pub returns-in-Both : goal.returns-in-Both
returns-in-Both c = rw c.in-Both.is (beside_tree c.args.parts)

pub returns-in-Seq : goal.returns-in-Seq
returns-in-Seq c = rw c.in-Seq.is (then_tree c.args.parts)

pub returns-in-Par : goal.returns-in-Par
returns-in-Par c = rw c.in-Par.is (beside_tree c.args.parts)
