use Rattle.std.proofs.Common.{◌≡◌, [], replicate}
use Rattle.std.specs.Prelude.{vec_capacity}
use Rattle.std.specs.VecDeque.{deque_capacity}
use Rattle.event_sim.proofs.ages.Presence.reset.Given as goal

abbrev pub invariant-loop-node : goal.invariant-loop-node
invariant-loop-node l = record {
  since : l.self.since.items ≡ replicate l._node 0;
  list : l.self.list.items ≡ [];
  order : l.self.order.items ≡ [];
  room : vec_capacity l.self.since ≡ vec_capacity l.fn.self.since;
  list_room : vec_capacity l.self.list ≡ vec_capacity l.fn.self.list;
  order_room : deque_capacity l.self.order ≡ deque_capacity l.fn.self.order;
}
