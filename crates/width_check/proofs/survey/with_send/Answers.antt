use Rattle.std.proofs.Common.{ap, ◌∙◌}
use Rattle.chp_syntax.specs.View.{expression_of}
use Rattle.width_check.specs.Walk.{capped_width}
use Rattle.width_check.proofs.Walks.{noted_send}
use Rattle.width_check.proofs.survey.with_send.Goals as goal

pub returns : goal.returns
returns c =
    noted_send _ _ _ _ c.args.chan.now (expression_of c.args.value.now) _ c.with_sender-findings.ensures (c.capped.ensures ∙ ap capped_width c.width.ensures)
    c.with_expression.ensures.findings
