use Rattle.std.proofs.Common.{◌≡◌, ◌+◌, ◌-◌, length}
use Rattle.std.specs.VecDeque.{deque_capacity}
use Rattle.event_sim.proofs.Present.{IsOnTheWay}
use Rattle.event_sim.proofs.ages.follow.Given as goal

abbrev pub invariant-loop-left : goal.invariant-loop-left
invariant-loop-left l = record {
  way : IsOnTheWay l.now l.left l.done l.was l.list l.fn.since l.since l.order.items;
  room : deque_capacity l.order ≡ deque_capacity l.fn.order;
}

abbrev pub decreases-loop-left : goal.decreases-loop-left
decreases-loop-left l = length l.was - l.left + (length l.list - l.done)
