use Rattle.std.proofs.Common.{sym, ap, ◌∙◌}
use Rattle.std.specs.Prelude.{if◌then◌else◌}
use Rattle.chp_meaning.specs.Remaining.{over, alongside}
use Rattle.chp_meaning.specs.Changes.{each_changed}
use Rattle.chp_meaning.proofs.Changing.{branches_change}
use Rattle.chp_meaning.proofs.change.set_branches.Goals as goal

pub returns-then-not-is_empty : goal.returns-then-not-is_empty
returns-then-not-is_empty c = λ rs. branches_change c.args.changes (alongside rs)
    ∙ ap (λ b. if b then over else alongside (each_changed c.args.changes.items rs)) (sym c.if-all_done.false)
