use Rattle.std.proofs.Common.{◌≡◌, ◌+◌, ◌-◌, ◌<◌, length, arith}
use Rattle.std.proofs.lemmas.List.{get_or_read}
use Rattle.event_sim.proofs.Aging.{last_alone, one_earlier, found_newest, counted_newest}
use Rattle.event_sim.proofs.ages.place_of_newest.Goals as goal

pub loop-place-init : goal.loop-place-init
loop-place-init c =
    let order = c.args.order.now in
    let end = c.len-end.result - 1 in
    let end_is : end + 1 ≡ length order.items = omega (arith, c.len-end.ensures, order.ok.0, c.requires.some) in
    let is_last = get_or_read order.items end c.index.result.now (omega (arith, end_is)) c.index.ensures 0 in
    record {
      within = omega arith;
      others = last_alone c.args.since.now order.items end c.index.result.now c.requires.few c.requires.below c.requires.ranked end_is is_last;
    }

pub loop-place-preserved : goal.loop-place-preserved
loop-place-preserved c =
    let order = c.args.order.now in
    let end = c.len-end.result - 1 in
    let place = c.loop-place.place in
    let end_is : end + 1 ≡ length order.items = omega (arith, c.len-end.ensures, order.ok.0, c.requires.some) in
    let is_last = get_or_read order.items end c.index.result.now (omega (arith, end_is)) c.index.ensures 0 in
    let inner : place - 1 < length order.items = omega (arith, c.loop-place.invariant.within, end_is) in
    let is_node = get_or_read order.items (place - 1) c.index-node.result.now inner c.index-node.ensures 0 in
    record {
      within = omega (arith, c.loop-place.invariant.within);
      others = one_earlier c.args.since.now order.items end c.index.result.now c.requires.few c.requires.below c.requires.ranked end_is is_last place
          c.index-node.result.now c.loop-place-test.true is_node c.if-since-node.false c.loop-place.invariant.others;
    }

pub returns-then-since-node : goal.returns-then-since-node
returns-then-since-node c =
    let order = c.args.order.now in
    let end = c.len-end.result - 1 in
    let place = c.loop-place.place in
    let end_is : end + 1 ≡ length order.items = omega (arith, c.len-end.ensures, order.ok.0, c.requires.some) in
    let is_last = get_or_read order.items end c.index.result.now (omega (arith, end_is)) c.index.ensures 0 in
    let inner : place - 1 < length order.items = omega (arith, c.loop-place.invariant.within, end_is) in
    let is_node = get_or_read order.items (place - 1) c.index-node.result.now inner c.index-node.ensures 0 in
    found_newest c.args.since.now order.items end c.index.result.now c.requires.few c.requires.below c.requires.ranked end_is is_last place
    c.index-node.result.now c.loop-place-test.true c.loop-place.invariant.within is_node c.if-since-node.true c.loop-place.invariant.others

pub returns : goal.returns
returns c =
    let order = c.args.order.now in
    let end = c.len-end.result - 1 in
    let end_is : end + 1 ≡ length order.items = omega (arith, c.len-end.ensures, order.ok.0, c.requires.some) in
    let is_last = get_or_read order.items end c.index.result.now (omega (arith, end_is)) c.index.ensures 0 in
    counted_newest c.args.since.now order.items end c.index.result.now c.requires.few c.requires.below c.requires.ranked end_is is_last c.count_older.result
    c.count_older.ensures.within c.count_older.ensures.older c.count_older.ensures.others
