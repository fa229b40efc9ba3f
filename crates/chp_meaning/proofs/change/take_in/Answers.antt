use Rattle.std.proofs.Common.{ap, ◌∙◌}
use Rattle.chp_meaning.specs.Changes.{altered, changed, each_changed}
use Rattle.chp_meaning.proofs.Changing.{each_push}
use Rattle.chp_meaning.proofs.change.take_in.Goals as goal

pub returns-clause-added : goal.returns-clause-added
returns-clause-added c = λ rs. ap (λ cs. each_changed cs rs) c.in_ok-push.ensures.items
    ∙ (each_push c.args.changes.now.items _ rs
    ∙ ap (λ ch. altered (each_changed c.args.changes.now.items rs) c.args.number (changed ch)) c.replace-change.ensures.value)
