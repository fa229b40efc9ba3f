use Rattle.std.proofs.Common.{false}
use Rattle.chp_syntax.proofs.Rows.{select_tree}
use Rattle.chp_syntax.proofs.parser.statement.select.Goals as goal

pub returns-clause-done : goal.returns-clause-done
returns-clause-done c = rw c.in_ok-close.was (select_tree false c.args.arms)
