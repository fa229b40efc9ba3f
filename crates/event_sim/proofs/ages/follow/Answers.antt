use Rattle.std.proofs.Common.{◌+◌, ◌<◌, length, get_or, refl, ◌∙◌, arith}
use Rattle.event_sim.proofs.Present.{started_at, stayed, left_one, arrived, way_below, way_ranked, leaves_first, ascending_few, ended}
use Rattle.event_sim.proofs.Aging.{kept_by_age, ages_are}
use Rattle.event_sim.proofs.ages.follow.Goals as goal

pub loop-left-init : goal.loop-left-init
loop-left-init c = record {
  way = started_at c.args.now c.equal_start-left.result c.args.was.now c.args.list.now c.args.since.now c.args.order.now.items c.requires.by_age
      c.requires.list.ascending c.equal_start-left.ensures;
  room = refl;
}

pub arrive-requires-clause-room : goal.arrive-requires-clause-room
arrive-requires-clause-room c =
    let more = (c.is_first.ensures.0 c.if-is_first.true).0 in
    omega (
      arith,
      more,
      c.loop-left.invariant.way.many,
      c.loop-left.invariant.way.left_in,
      c.loop-left.invariant.room,
      ascending_few c.args.list.now (length c.args.since.now) c.requires.list.ascending c.requires.list.below,
      ascending_few c.args.was.now (length c.args.since.now) c.requires.by_age.ascending c.requires.by_age.below,
      c.requires.room,
      c.loop-left.order.ok.0,
    )

pub loop-left-preserved-then-is_first : goal.loop-left-preserved-then-is_first
loop-left-preserved-then-is_first c =
    let left = c.loop-left.left in
    let done = c.loop-left.done in
    let run = c.equal_run-run.result in
    let was = c.args.was.now in
    let list = c.args.list.now in
    let was_up = c.requires.by_age.ascending in
    let list_up = c.requires.list.ascending in
    let told = c.is_first.ensures.0 c.if-is_first.true in
    let way = stayed c.args.now left done run was list c.args.since.now c.loop-left.since c.loop-left.order.items was_up list_up c.loop-left.invariant.way
    c.equal_run-run.ensures.run in
    let low : get_or list (done + run) 0 < length c.loop-left.since = omega (arith, c.requires.list.below (done + run) 0 told.0, way.count) in
    record {
      way = rw (c.arrive.ensures.since, c.arrive.ensures.order)
          (arrived c.args.now (left + run) (done + run) was list c.args.since.now c.loop-left.since c.loop-left.order.items was_up list_up way told.0 low
          told.1);
      room = c.arrive.ensures.room ∙ c.loop-left.invariant.room;
    }

pub leave-requires-clause-below : goal.leave-requires-clause-below
leave-requires-clause-below c =
    way_below c.args.now c.loop-left.left c.loop-left.done c.args.was.now c.args.list.now c.args.since.now c.loop-left.since c.loop-left.order.items
    c.requires.by_age.below c.requires.list.below c.loop-left.invariant.way

pub leave-requires-clause-ranked : goal.leave-requires-clause-ranked
leave-requires-clause-ranked c =
    way_ranked c.args.now c.loop-left.left c.loop-left.done c.args.was.now c.args.list.now c.args.since.now c.loop-left.since c.loop-left.order.items
    c.loop-left.invariant.way

pub loop-left-preserved-then-left-was-2 : goal.loop-left-preserved-then-left-was-2
loop-left-preserved-then-left-was-2 c =
    let left = c.loop-left.left in
    let done = c.loop-left.done in
    let run = c.equal_run-run.result in
    let was = c.args.was.now in
    let list = c.args.list.now in
    let was_up = c.requires.by_age.ascending in
    let list_up = c.requires.list.ascending in
    let way = stayed c.args.now left done run was list c.args.since.now c.loop-left.since c.loop-left.order.items was_up list_up c.loop-left.invariant.way
    c.equal_run-run.ensures.run in
    let inner : left + run < length was = c.if-left-was-2.true in
    let first = leaves_first c.is_first.result (left + run) (done + run) was list c.is_first.ensures.1 c.if-is_first.false way.done_in
    (c.equal_run-run.ensures.apart inner) in
    let gone = c.leave.ensures.left in
    record {
      way = rw gone.3
          (left_one c.args.now (left + run) (done + run) was list c.args.since.now c.loop-left.since c.loop-left.order.items was_up way inner first list_up
          gone.0 gone.1 gone.2);
      room = c.leave.ensures.room ∙ c.loop-left.invariant.room;
    }

pub loop-left-preserved : goal.loop-left-preserved
loop-left-preserved c = record {
  way = stayed c.args.now c.loop-left.left c.loop-left.done c.equal_run-run.result c.args.was.now c.args.list.now c.args.since.now c.loop-left.since
      c.loop-left.order.items c.requires.by_age.ascending c.requires.list.ascending c.loop-left.invariant.way c.equal_run-run.ensures.run;
  room = c.loop-left.invariant.room;
}

pub returns-clause-by_age : goal.returns-clause-by_age
returns-clause-by_age c =
    kept_by_age c.args.now c.args.was.now c.args.list.now c.args.since.now c.loop-left.since c.args.order.now.items c.requires.by_age c.requires.list
    c.loop-left.order.items
    (ended c.args.now c.loop-left.left c.loop-left.done c.args.was.now c.args.list.now c.args.since.now c.loop-left.since c.loop-left.order.items
    c.if-left-was.false c.if-done-list.false c.loop-left.invariant.way)

pub returns-clause-ages : goal.returns-clause-ages
returns-clause-ages c =
    ages_are c.args.now c.args.was.now c.args.list.now c.args.since.now c.loop-left.since c.args.order.now.items c.requires.by_age c.requires.list
    c.loop-left.order.items
    (ended c.args.now c.loop-left.left c.loop-left.done c.args.was.now c.args.list.now c.args.since.now c.loop-left.since c.loop-left.order.items
    c.if-left-was.false c.if-done-list.false c.loop-left.invariant.way)
