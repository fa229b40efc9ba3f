use Rattle.std.proofs.Common.{◌≡◌, ◌<◌, length, get_or, ap, ◌∙◌, arith}
use Rattle.std.proofs.lemmas.List.{get_or_read}
use Rattle.event_sim.proofs.Aging.{oldest_is}
use Rattle.event_sim.proofs.ages.Presence.oldest.Goals as goal

pub returns-clause-best : goal.returns-clause-best
returns-clause-best c = λ now kept.
    let p = c.args.self.now in
    let some : 0 < length p.order.items = omega (arith, kept.count, c.requires.some) in
    let within : c.index_of.result < length p.list.items = omega (arith, c.index_of.ensures.within, ap length c.deref.ensures.value) in
    let here : get_or p.list.items c.index_of.result 0 ≡ get_or p.order.items 0 0 =
    (rw c.deref.ensures.value at c.index_of.ensures.here) ∙ get_or_read p.order.items 0 c.index.result.now some c.index.ensures 0 in
    oldest_is now p.since.items p.list.items p.order.items kept c.index_of.result within here
