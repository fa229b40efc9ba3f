use Rattle.std.proofs.Common.{◌∙◌, ap}
use Rattle.chp_meaning.specs.Ends.{end_by}
use Rattle.chp_meaning.proofs.run.end_after.Goals as goal

pub returns-clause-end : goal.returns-clause-end
returns-clause-end c = (_, c.in_ok-moves.moves.items, c.in_ok-moves.ensures.plan, c.end_by.ensures ∙ ap end_by c.deref.ensures.value)
