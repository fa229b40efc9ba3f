use Rattle.std.proofs.Common.{sym, ap, ◌∙◌, arith}
use Rattle.std.proofs.lemmas.Result.{IfOk-weaker}
use Rattle.call_merge.specs.CallSplits.{own_name}
use Rattle.call_merge.proofs.OwnNames.{taken_more, last_free}
use Rattle.call_merge.proofs.own_vars.free_name.Goals as goal

pub loop-number-preserved : goal.loop-number-preserved
loop-number-preserved c = taken_more c.loop-number.number c.args.taken.now.keys c.in_ok-made.made.name
    (c.in_ok-made.made.numbered ∙ ap own_name c.in_ok-made.ensures) (sym c.contains.ensures ∙ c.if-not-contains.false) c.loop-number.invariant

pub returns-then-not-contains-clause-least : goal.returns-then-not-contains-clause-least
returns-then-not-contains-clause-least c = λ j less. c.loop-number.invariant j (omega (arith, less, c.in_ok-made.ensures))

pub returns-clause-free : goal.returns-clause-free
returns-clause-free c = IfOk-weaker c.numbered-2.result _ _
    (λ made is. last_free made.number c.args.taken.now.keys made.name made.numbered (is ∙ c.len-most.ensures.len)
    (omega (arith, is, c.len-most.ensures.small)) (λ j less. c.loop-number.invariant j (omega (arith, less, is)))) c.numbered-2.ensures

pub returns-clause-least : goal.returns-clause-least
returns-clause-least c = IfOk-weaker c.numbered-2.result _ _ (λ made is j less. c.loop-number.invariant j (omega (arith, less, is))) c.numbered-2.ensures
