use Rattle.std.proofs.Common.{◌≤◌, drop, vec_len, vec_capacity}
use Rattle.net_compose.specs.Shapes.{all_wanted}
use Rattle.net_stream.proofs.Puts.{IsTermLeft}
use Rattle.net_stream.proofs.guard.nodes_text.Given as goal

abbrev pub invariant-loop-node : goal.invariant-loop-node
invariant-loop-node l = record {
  left : IsTermLeft l.net l.fn.lead l.next (all_wanted l.high l.nodes) (all_wanted l.high (drop l.node-index l.nodes)) l.initial.to.items l.to.items
      (vec_len l.initial.to) (vec_len l.to);
  capacity : vec_capacity l.initial.to ≤ vec_capacity l.to;
}
