use Rattle.std.proofs.Common.{sym, subst}
use Rattle.std.proofs.lemmas.Result.{IfOk-weaker}
use Rattle.width_check.specs.declared.typed.TStmt.{TStmt}
use Rattle.width_check.specs.Processes.{Process}
use Rattle.width_check.specs.View.{process_of}
use Rattle.sharing_check.specs.Tells.{Tells}
use Rattle.sharing_check.proofs.Telling.{no_turn, no_branch, no_choice, repeat_told}
use Rattle.sharing_check.proofs.Members.{turn_collected, branch_collected, choice_collected, then_told, beside_told, select_told, repeat_is}
use Rattle.sharing_check.proofs.deeds.+deeds_of.Goals as goal

pub loop-part-init : goal.loop-part-init
loop-part-init t c = IfOk-weaker c.nothing_done-all.result _ _ (λ d none. no_turn _ _ (none c.args.cause)) c.nothing_done-all.ensures

pub loop-branch-init : goal.loop-branch-init
loop-branch-init t c = IfOk-weaker c.nothing_done-all-in-Beside.result _ _ (λ d none. no_branch _ _ (none c.args.cause)) c.nothing_done-all-in-Beside.ensures

pub loop-arm-init : goal.loop-arm-init
loop-arm-init t c = IfOk-weaker c.nothing_done-all-in-Select.result _ _ (λ d none. no_choice _ _ _ (none c.args.cause)) c.nothing_done-all-in-Select.ensures

pub loop-part-preserved : goal.loop-part-preserved
loop-part-preserved t c =
    turn_collected _ _ c.loop-part.part-index _ c.loop-part.all c.deeds_of.result c.apart-all.result c.loop-part-test.true c.part-item.is
    c.loop-part.invariant c.deeds_of.ensures c.apart-all.ensures

pub loop-branch-preserved : goal.loop-branch-preserved
loop-branch-preserved t c =
    branch_collected _ _ c.loop-branch.branch-index _ c.loop-branch.all c.deeds_of-in-loop-branch.result c.beside-all.result c.loop-branch-test.true
    c.branch-item.is c.loop-branch.invariant c.deeds_of-in-loop-branch.ensures c.beside-all.ensures

pub loop-arm-preserved : goal.loop-arm-preserved
loop-arm-preserved t c =
    choice_collected _ _ c.loop-arm.arm-index _ c.loop-arm.all c.deeds_of-body.result c.guarded.result c.apart-all-in-loop-arm.result
    c.loop-arm-test.true c.arm-item.is c.loop-arm.invariant c.deeds_of-body.ensures c.guarded.ensures c.apart-all-in-loop-arm.ensures

pub returns-after-loop-part : goal.returns-after-loop-part
returns-after-loop-part t c = IfOk-weaker c.loop-part.all _ _ (λ d tells. then_told _ _ _ _ c.loop-part.part-index _ c.in-Then.is
    c.deref-part-items.ensures.value c.loop-part-test.false tells) c.loop-part.invariant

pub returns-after-loop-branch : goal.returns-after-loop-branch
returns-after-loop-branch t c = IfOk-weaker c.loop-branch.all _ _ (λ d tells. beside_told _ _ _ _ c.loop-branch.branch-index _ c.in-Beside.is
    c.deref-branch-items.ensures.value c.loop-branch-test.false tells) c.loop-branch.invariant

pub returns-after-loop-arm : goal.returns-after-loop-arm
returns-after-loop-arm t c = IfOk-weaker c.loop-arm.all _ _ (λ d tells. select_told _ _ _ _ _ c.loop-arm.arm-index _ c.in-Select.is
    c.deref-arm-items.ensures.value c.loop-arm-test.false tells) c.loop-arm.invariant

pub returns-in-Skip : goal.returns-in-Skip
returns-in-Skip t c = IfOk-weaker c.nothing_done.result _ _
    (λ d none. subst (λ (s : TStmt). Tells c.args.cause (process_of s) d.value) (sym c.in-Skip.is) (none c.args.cause)) c.nothing_done.ensures

pub returns-in-Repeat : goal.returns-in-Repeat
returns-in-Repeat t c =
    let is = repeat_is _ _ _ c.in-Repeat.is c.deref.ensures in
    IfOk-weaker c.deeds_of-in-Repeat.result _ _ (λ d tells. subst (λ (p : Process). Tells c.args.cause p d.value) (sym is) (repeat_told _ _ d.value tells))
    c.deeds_of-in-Repeat.ensures
