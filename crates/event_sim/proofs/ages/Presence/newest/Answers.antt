use Rattle.std.proofs.Common.{◌≡◌, ◌<◌, length, get_or, sym, ap, ◌∙◌, arith}
use Rattle.std.proofs.lemmas.List.{get_or_read}
use Rattle.event_sim.specs.Ages.{IsPlaceOfNewest}
use Rattle.event_sim.proofs.Aging.{order_below, newest_is}
use Rattle.event_sim.proofs.ages.Presence.newest.Goals as goal

pub place_of_newest-place-requires : goal.place_of_newest-place-requires
place_of_newest-place-requires c =
    let p = c.args.self.now in
    let kept = c.requires.by_age.1 in
    rw c.deref.ensures.value record {
      some = omega (arith, kept.count, c.requires.some);
      few = kept.few;
      below = order_below c.requires.by_age.0 p.since.items p.list.items p.order.items kept;
      ranked = kept.ranked;
    }

pub index_of-index-requires-clause-there : goal.index_of-index-requires-clause-there
index_of-index-requires-clause-there c =
    let p = c.args.self.now in
    let place = c.place_of_newest-place.result in
    let within : place < length p.order.items = c.place_of_newest-place.ensures.within in
    let at = c.requires.by_age.1.only place within in
    rw c.deref-2.ensures.value (at.0, at.1, at.2 ∙ sym (get_or_read p.order.items place c.index.result.now within c.index.ensures 0))

pub returns-clause-best : goal.returns-clause-best
returns-clause-best c = λ now kept.
    let p = c.args.self.now in
    let place = c.place_of_newest-place.result in
    let newest : IsPlaceOfNewest p.since.items p.order.items place = rw c.deref.ensures.value at c.place_of_newest-place.ensures in
    let within : c.index_of-index.result < length p.list.items = omega (arith, c.index_of-index.ensures.within, ap length c.deref-2.ensures.value) in
    let here : get_or p.list.items c.index_of-index.result 0 ≡ get_or p.order.items place 0 =
    (rw c.deref-2.ensures.value at c.index_of-index.ensures.here) ∙ get_or_read p.order.items place c.index.result.now newest.within c.index.ensures 0 in
    newest_is now p.since.items p.list.items p.order.items kept c.index_of-index.result within place newest here
