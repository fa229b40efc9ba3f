use Rattle.std.proofs.Common.{◌∙◌, length, arith}
use Rattle.std.proofs.lemmas.List.{length-map}
use Rattle.chp_meaning.proofs.Settling.{withdrawn_more}
use Rattle.chp_meaning.proofs.settle.withdraw_all.Goals as goal

pub loop-number-preserved : goal.loop-number-preserved
loop-number-preserved c = λ before start.
    withdrawn_more before _ _ c.args.moves.now c.loop-number.number (length c.args.histories.now) _ c.loop-number-test.true c.loop-number.auto.number
    (length-map c.loop-number.histories (λ h. h.items) ∙ c.loop-number.auto.histories)
    (c.requires _ _ (omega (arith, c.loop-number-test.true, c.loop-number.auto.number))) c.withdraw.ensures (c.loop-number.invariant before start)
