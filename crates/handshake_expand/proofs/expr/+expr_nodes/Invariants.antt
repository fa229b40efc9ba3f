use Rattle.std.proofs.Common.{◌≡◌, ◌≤◌, ◌+◌, ◌-◌, ◌^◌, drop}
use Rattle.width_check.specs.View.{formula_of}
use Rattle.width_check.specs.Values.{AreWellFormed, AreOperations}
use Rattle.handshake_expand.specs.Layout.{formula_size, parts_size, operations_size, capped}
use Rattle.handshake_expand.proofs.Rows.{parts_of, links_of}
use Rattle.handshake_expand.proofs.expr.+expr_nodes.Given as goal

abbrev pub invariant-loop-part : goal.invariant-loop-part
invariant-loop-part l = record {
  counted : capped (l.count + parts_size (parts_of (drop l.part-index l.part-items))) ≡ capped (formula_size (formula_of l.fn.e));
  formed : AreWellFormed (parts_of (drop l.part-index l.part-items));
  most : l.count ≤ 2 ^ 64 - 1;
}

abbrev pub invariant-loop-link : goal.invariant-loop-link
invariant-loop-link l = record {
  counted : capped (l.count + operations_size l.width (links_of (drop l.link-index l.link-items))) ≡ capped (formula_size (formula_of l.fn.e));
  formed : AreOperations l.width (links_of (drop l.link-index l.link-items));
  most : l.count ≤ 2 ^ 64 - 1;
}
