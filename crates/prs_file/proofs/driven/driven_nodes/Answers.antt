use Rattle.std.proofs.Common.{◌≡◌, ◌+◌, ◌++◌, ◌∷◌, [], ◌<◌, false, length, get_or, take, sym, ap, ◌∙◌, subst, arith}
use Rattle.std.specs.Prelude.{All, ◌==◌, ◌||◌}
use Rattle.std.specs.List.{list_any}
use Rattle.std.proofs.lemmas.List.{take_more, take_all}
use Rattle.prs_core.specs.Nets.{wires_from_outside}
use Rattle.prs_file.proofs.DrivenNodes.{driven_more, wires_within, written, wired_item}
use Rattle.prs_file.proofs.driven.driven_nodes.Goals as goal

pub mark_wires-requires-clause-rails : goal.mark_wires-requires-clause-rails
mark_wires-requires-clause-rails c =
    let n = c.args.nodes.now in
    let wired = wired_item n.index n.first.items c.args.channels.now c.loop-wires.wires-index c.wires-item.result c.requires.wired c.loop-wires-test.true
    c.wires-item.is in
    subst (λ count. All (λ k. k < count) c.wires-item.result.rails) (sym (ap length c.deref_mut.ensures.value ∙ c.loop-wires.invariant.count))
    (wires_within n.index n.first.items c.wires-item.result wired).0

pub mark_wires-requires-clause-ack : goal.mark_wires-requires-clause-ack
mark_wires-requires-clause-ack c =
    let n = c.args.nodes.now in
    let wired = wired_item n.index n.first.items c.args.channels.now c.loop-wires.wires-index c.wires-item.result c.requires.wired c.loop-wires-test.true
    c.wires-item.is in
    omega (arith, (wires_within n.index n.first.items c.wires-item.result wired).1, ap length c.deref_mut.ensures.value, c.loop-wires.invariant.count)

pub loop-wires-preserved : goal.loop-wires-preserved
loop-wires-preserved c =
    let n = c.args.nodes.now in
    let l = c.loop-wires in
    let w = c.wires-item.result in
    let ws = c.args.channels.now in
    let wired = wired_item n.index n.first.items ws l.wires-index w c.requires.wired c.loop-wires-test.true c.wires-item.is in
    let same : length c.mark_wires.new.driven ≡ length l.driven.items = c.mark_wires.auto.driven ∙ ap length c.deref_mut.ensures.value in
    let more : take (l.wires-index + 1) ws ≡ take l.wires-index ws ++ w ∷ [] = take_more ws l.wires-index w c.loop-wires-test.true
    ∙ ap (λ x. take l.wires-index ws ++ x ∷ []) (sym c.wires-item.is) in
    let marked = driven_more (n.version == 2) n.index n.first.items (take l.wires-index ws) w l.driven.items c.mark_wires.new.driven c.requires.nodes.distinct
    wired l.invariant same (λ k. c.mark_wires.ensures k
    ∙ ap (λ xs. get_or xs k false || list_any (λ m. m == k) (wires_from_outside w.channel.kind w.rails w.ack)) c.deref_mut.ensures.value) in
    rw (more, written l.driven.len c.mark_wires.new.driven l.driven.items same (sym c.deref_mut.ensures.len ∙ ap length c.deref_mut.ensures.value)) marked

pub returns : goal.returns
returns c =
    let n = c.args.nodes.now in
    rw (← take_all c.loop-wires.wires-index c.args.channels.now c.loop-wires-test.false) c.loop-wires.invariant
