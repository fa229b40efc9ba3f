use Rattle.std.proofs.Common.{◌≡◌, ◌^◌, take}
use Rattle.guard_rows.specs.Places.{is_one_of, weight_of, AreAdded}
use Rattle.guard_rows.proofs.edges.add_bits.Given as goal

abbrev pub invariant-loop-input : goal.invariant-loop-input
invariant-loop-input l = record {
  weight : l.weight ≡ 2 ^ l.input-index;
  added : AreAdded l.row (is_one_of (take l.input-index l.inputs)) (λ m. weight_of m (take l.input-index l.inputs)) l.fn.edges.items l.edges.items;
}
