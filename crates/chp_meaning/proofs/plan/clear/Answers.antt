use Rattle.std.proofs.Common.{false, length, fold, ap, ◌∙◌}
use Rattle.width_check.specs.View.{process_of}
use Rattle.chp_meaning.specs.Remaining.{remains_of}
use Rattle.chp_meaning.specs.AtOnce.{statements, noted_send, noted_receive}
use Rattle.chp_meaning.proofs.Tables.{sends_clear, receives_clear}
use Rattle.chp_meaning.proofs.plan.clear.Goals as goal

pub returns-else-sends-passed-clause-sends : goal.returns-else-sends-passed-clause-sends
returns-else-sends-passed-clause-sends c =
    let ps = statements (process_of c.args.stmt.now) (remains_of c.args.left.now) in
    c.note.ensures.sends ∙ (ap (λ xs. fold (noted_send false) xs ps) c.requires.sends ∙ sends_clear (length c.args.sends.now) ps)

pub returns-else-sends-passed-clause-receives : goal.returns-else-sends-passed-clause-receives
returns-else-sends-passed-clause-receives c =
    let ps = statements (process_of c.args.stmt.now) (remains_of c.args.left.now) in
    c.note.ensures.receives ∙ (ap (λ xs. fold (noted_receive false) xs ps) c.requires.receives ∙ receives_clear (length c.args.receives.now) ps)
