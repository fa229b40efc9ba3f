use Rattle.std.proofs.Common.{◌∙◌, ◌++◌, ◌∷◌, [], ap, get_or, sym}
use Rattle.std.proofs.lemmas.List.{take_all}
use Rattle.event_sim.specs.Passing.{values_through}
use Rattle.history_report.proofs.Pieces.{one_value_more, no_value_more}
use Rattle.history_report.proofs.comparison.values_on.Goals.{then-on-chan+in_ok-push, else-on-chan}
use Rattle.history_report.proofs.comparison.values_on.Goals as goal

pub loop-on-preserved : goal.loop-on-preserved
loop-on-preserved c =
    let chan = c.args.chan in
    let passed = c.args.passed.now in
    let i = c.loop-on.on-index in
    elim c.if-on-chan.branch [
      | then-on-chan+in_ok-push w ↦
          ap (λ v. v.items) w.values-is ∙ (w.in_ok-push.ensures.items
          ∙ (ap (λ ys. ys ++ ((get_or passed i (0, 0)).1 ∷ [])) c.loop-on.invariant
          ∙ sym (one_value_more chan passed i c.loop-on-test.true w.if-on-chan.true)))
      | else-on-chan w ↦
          ap (λ v. v.items) w.values-is ∙ (c.loop-on.invariant ∙ sym (no_value_more chan passed i c.loop-on-test.true w.if-on-chan.false))
    ]

pub returns : goal.returns
returns c =
    c.loop-on.invariant ∙ ap (values_through c.args.chan) (take_all c.loop-on.on-index c.args.passed.now c.loop-on-test.false)
