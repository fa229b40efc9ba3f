use Rattle.std.proofs.Common.{◌≡◌, ◌+◌, ◌*◌, ◌^◌, ◌<◌, ◌≤◌, drop, slice_index}
use Rattle.width_check.specs.View.{formula_of}
use Rattle.width_check.specs.Values.{value, widths_of, joined_value, chained_value, AreWellFormed, AreOperations}
use Rattle.width_check.proofs.Rows.{parts_of, links_of}
use Rattle.width_check.proofs.evaluate.+value.Given as goal

abbrev pub invariant-loop-part : goal.invariant-loop-part
invariant-loop-part l = record {
  joined : l.number * 2 ^ widths_of (parts_of (drop l.part-index l.part-items)) + joined_value (slice_index l.store) (parts_of (drop l.part-index l.part-items))
      ≡ joined_value (slice_index l.store) (parts_of l.part-items);
  formed : AreWellFormed (parts_of (drop l.part-index l.part-items));
  most : joined_value (slice_index l.store) (parts_of l.part-items) < 2 ^ 64;
  widths : widths_of (parts_of (drop l.part-index l.part-items)) ≤ 64;
}

abbrev pub invariant-loop-link : goal.invariant-loop-link
invariant-loop-link l = record {
  chained : chained_value (slice_index l.store) l.width l.number (links_of (drop l.link-index l.link-items)) ≡ value (slice_index l.store) (formula_of l.fn.e);
  formed : AreOperations l.width (links_of (drop l.link-index l.link-items));
  small : l.number < 2 ^ l.width;
  some : 1 ≤ l.width;
  most : l.width ≤ 64;
}
