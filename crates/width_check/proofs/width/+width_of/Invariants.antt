use Rattle.std.proofs.Common.{◌≡◌, ◌+◌, ◌≤◌, drop}
use Rattle.width_check.specs.Values.{widths_of, AreWellFormed}
use Rattle.width_check.proofs.Rows.{parts_of}
use Rattle.width_check.proofs.width.+width_of.Given as goal

abbrev pub invariant-loop-part : goal.invariant-loop-part
invariant-loop-part l = record {
  sum : l.width + widths_of (parts_of (drop l.part-index l.part-items)) ≡ widths_of (parts_of l.part-items);
  formed : AreWellFormed (parts_of (drop l.part-index l.part-items));
  most : widths_of (parts_of l.part-items) ≤ 64;
}
