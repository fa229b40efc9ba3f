use Rattle.std.proofs.Common.{◌≡◌, List, [], ◌∷◌, ◌++◌, IfOk, ap, ◌∙◌, subst}
use Rattle.std.proofs.lemmas.List.{take_all}
use Rattle.prs_core.specs.declared.rule.Literal.{Literal}
use Rattle.prs_core.specs.Pairs.{lows}
use Rattle.cell_variable.proofs.Merges.{lows_next}
use Rattle.cell_variable.proofs.merge.all_low.Goals as goal

pub loop-node-init : goal.loop-node-init
loop-node-init c = c.new-literals.ensures.items

pub loop-node-preserved : goal.loop-node-preserved
loop-node-preserved c =
    c.in_ok-push.ensures.items ∙ ap (λ (l : Literal). c.loop-node.literals.items ++ l ∷ []) c.low.ensures
    ∙ lows_next c.args.nodes.now c.loop-node.node-index c.loop-node.literals.items c.loop-node-test.true c.loop-node.invariant

pub returns : goal.returns
returns c =
    let made : c.deref.result.now ≡ lows c.args.nodes.now = c.deref.ensures.value ∙ c.loop-node.invariant
    ∙ ap lows (take_all c.loop-node.node-index c.args.nodes.now c.loop-node-test.false) in
    subst (λ (xs : List Literal). IfOk c.all_of.result (λ guard. guard ≡ xs ∷ [])) made c.all_of.ensures
