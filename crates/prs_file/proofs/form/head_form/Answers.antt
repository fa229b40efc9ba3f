use Rattle.std.proofs.Common.{sym, ◌∙◌, arith}
use Rattle.prs_file.proofs.HeadLines.{known_head, no_head}
use Rattle.prs_file.proofs.form.head_form.Goals as goal

pub returns-then-is_spelled-clause-some : goal.returns-then-is_spelled-clause-some
returns-then-is_spelled-clause-some c = known_head c.args.line.now 1 (omega arith) (sym c.if-is_spelled.true ∙ c.is_spelled.ensures)

pub returns-then-is_spelled-2-clause-some : goal.returns-then-is_spelled-2-clause-some
returns-then-is_spelled-2-clause-some c = known_head c.args.line.now 2 (omega arith) (sym c.if-is_spelled-2.true ∙ c.is_spelled-else-is_spelled.ensures)

pub returns-else-is_spelled-2-clause-none : goal.returns-else-is_spelled-2-clause-none
returns-else-is_spelled-2-clause-none c =
    no_head c.args.line.now (sym c.if-is_spelled.false ∙ c.is_spelled.ensures) (sym c.if-is_spelled-2.false ∙ c.is_spelled-else-is_spelled.ensures)
