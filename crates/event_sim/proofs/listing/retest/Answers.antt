use Rattle.std.proofs.Common.{◌<◌, ◌∙◌, ◌∷◌, [], sym, ap, subst, get_or, take, length, cond, not, Bool, ℕ, List, arith}
use Rattle.std.specs.Prelude.{◌&&◌}
use Rattle.std.proofs.lemmas.List.{take_more}
use Rattle.event_sim.specs.Locality.{is_ready, lesser, IsRetested}
use Rattle.event_sim.proofs.Behind.{retested_more, retested_one}
use Rattle.event_sim.proofs.listing.retest.Goals as goal

pub loop-node-preserved : goal.loop-node-preserved
loop-node-preserved c =
    let ready = is_ready c.args.indexed.now c.args.done.now c.args.state.now in
    let xs = c.args.nodes.now in
    let i = c.loop-node.node-index in
    let m = get_or xs i 0 in
    let old = c.args.moves.now in
    let mid = c.loop-node.moves in
    let new = c.set.new.self in
    let within : m < length mid = omega (arith, c.requires.nodes i 0 c.loop-node-test.true, c.loop-node.invariant.count_is, c.requires.moves) in
    let one = retested_one ready m mid new c.loop-node.lost c.least_lost-lost.result c.is_ready-ready.result within c.is_ready-ready.ensures c.set.ensures
    (c.least_lost-lost.ensures ∙ ap (λ (b : Bool). cond (b && not c.is_ready-ready.result) (lesser c.loop-node.lost m) c.loop-node.lost)
    c.contains-was.ensures) in
    subst (λ (ys : List ℕ). IsRetested ready ys old new c.args.before c.least_lost-lost.result) (sym (take_more xs i 0 c.loop-node-test.true))
    (retested_more ready (take i xs) (m ∷ []) old mid new c.args.before c.loop-node.lost c.least_lost-lost.result c.loop-node.invariant one)
