use Rattle.chp_meaning.proofs.Settling.{on_err, pushed, unpushed, in_range}
use Rattle.chp_meaning.proofs.settle.pass.Goals as goal

pub returns-in_err-push-clause-err : goal.returns-in_err-push-clause-err
returns-in_err-push-clause-err c = on_err _ _
    (unpushed c.args.histories.now c.in-Some.chan _ _ (in_range _ _ c.in-Some.chan c.in-Some.value c.in-Some.is c.requires) c.in_err-push.ensures.items)

pub returns-in_ok-push-clause-ok : goal.returns-in_ok-push-clause-ok
returns-in_ok-push-clause-ok c = pushed c.args.histories.now c.in-Some.chan _ _ c.in-Some.value c.args.step.now
    (in_range _ _ c.in-Some.chan c.in-Some.value c.in-Some.is c.requires) c.in-Some.is c.in_ok-push.ensures.items
