use Rattle.std.proofs.Common.{◌≡◌, [], ◌∷◌, ◌++◌, List, replicate, arith, ap, ◌∙◌}
use Rattle.std.proofs.lemmas.List.{replicate-append-replicate}
use Rattle.prs_core.specs.Nets.{GuardValue}
use Rattle.prs_core.proofs.rules.no_guards.Goals as goal

pub loop-node-init : goal.loop-node-init
loop-node-init c = c.in_ok-guards.ensures.items

pub loop-node-preserved : goal.loop-node-preserved
loop-node-preserved c =
    c.in_ok-push.ensures.items ∙ ap (λ (x : GuardValue). c.loop-node.guards.items ++ x ∷ []) (c.new-in-loop-node.ensures ∙ c.new.ensures.items)
    ∙ ap (λ (xs : List (GuardValue)). xs ++ [] ∷ []) c.loop-node.invariant ∙ replicate-append-replicate c.loop-node._node 1 []

pub returns : goal.returns
returns c =
    let all : c.loop-node._node ≡ c.args.nodes = omega (arith, c.loop-node-test.false, c.loop-node.auto._node-end) in
    c.loop-node.invariant ∙ ap (λ k. replicate k []) all
