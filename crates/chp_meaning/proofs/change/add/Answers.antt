use Rattle.std.proofs.Common.{sym, ap, ◌∙◌}
use Rattle.chp_meaning.specs.Changes.{altered, changed, each_changed}
use Rattle.chp_meaning.proofs.Changing.{altered_same}
use Rattle.chp_meaning.proofs.change.add.Goals as goal

pub returns-in-Stays-clause-added : goal.returns-in-Stays-clause-added
returns-in-Stays-clause-added c = λ rs.
    sym (ap (λ ch. altered (each_changed c.args.changes.now.items rs) c.args.number (changed ch)) c.in-Stays.is
    ∙ altered_same (each_changed c.args.changes.now.items rs) c.args.number)
