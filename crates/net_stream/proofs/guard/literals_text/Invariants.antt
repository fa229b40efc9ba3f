use Rattle.std.proofs.Common.{◌≤◌, drop, vec_len, vec_capacity}
use Rattle.net_stream.proofs.Puts.{IsTermLeft}
use Rattle.net_stream.proofs.guard.literals_text.Given as goal

abbrev pub invariant-loop-literal : goal.invariant-loop-literal
invariant-loop-literal l = record {
  left : IsTermLeft l.net l.fn.lead l.next l.literals (drop l.literal-index l.literals) l.initial.to.items l.to.items (vec_len l.initial.to) (vec_len l.to);
  capacity : vec_capacity l.initial.to ≤ vec_capacity l.to;
}
