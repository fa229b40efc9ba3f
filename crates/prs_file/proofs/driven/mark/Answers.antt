use Rattle.std.proofs.Common.{◌<◌, false, length, get_or, refl, ap, ◌∙◌, arith}
use Rattle.std.specs.Prelude.{◌==◌, ◌||◌}
use Rattle.std.specs.List.{list_any}
use Rattle.std.proofs.lemmas.List.{take_all}
use Rattle.prs_file.proofs.DrivenNodes.{mark_more}
use Rattle.prs_file.proofs.driven.mark.Goals as goal

pub loop-node-preserved : goal.loop-node-preserved
loop-node-preserved c n =
    let l = c.loop-node in
    let nodes = c.args.nodes.now in
    let node = get_or nodes l.node-index 0 in
    let below : node < length l.driven = omega (arith, c.requires l.node-index 0 c.loop-node-test.true, l.auto.driven) in
    mark_more c.args.driven.now l.driven nodes l.node-index node n c.loop-node-test.true refl below (l.invariant n)

pub returns : goal.returns
returns c n =
    c.loop-node.invariant n ∙ ap (λ ks. get_or c.args.driven.now n false || list_any (λ k. k == n) ks)
    (take_all c.loop-node.node-index c.args.nodes.now c.loop-node-test.false)
