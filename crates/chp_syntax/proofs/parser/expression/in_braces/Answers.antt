use Rattle.std.proofs.Common.{ap}
use Rattle.chp_syntax.specs.Trees.{Expression}
use Rattle.chp_syntax.specs.Grammar.{cover, from_to}
use Rattle.chp_syntax.proofs.Rows.{join_tree}
use Rattle.chp_syntax.proofs.parser.expression.in_braces.Goals as goal

pub returns-clause-done : goal.returns-clause-done
returns-clause-done c =
    let at = from_to c.args.first c.in_ok-close.close in
    rw (c.in_ok-close.was, c.from_to-at.ensures) (ap (λ (e : Expression). cover e at) (join_tree c.args.parts at))
