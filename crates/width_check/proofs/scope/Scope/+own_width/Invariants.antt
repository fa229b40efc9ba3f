use Rattle.std.proofs.Common.{◌≡◌, ◌+◌, ◌≤◌, drop}
use Rattle.std.specs.Prelude.{option_map}
use Rattle.width_check.specs.Places.{own_widths, first_width}
use Rattle.width_check.specs.Walk.{capped_width, join_parts, links_in}
use Rattle.width_check.proofs.scope.Scope.+own_width.Given as goal

abbrev pub decreases-own_width : goal.decreases-own_width
decreases-own_width l = goal.size-own_width l

abbrev pub invariant-loop-part : goal.invariant-loop-part
invariant-loop-part l = record {
  sum : capped_width (l.width + own_widths l.self.decls.now (join_parts (drop l.part-index l.part-items))) ≡
      capped_width (own_widths l.self.decls.now (join_parts l.part-items));
  most : l.width ≤ 64;
}

abbrev pub invariant-loop-link : goal.invariant-loop-link
invariant-loop-link l = option_map capped_width (first_width l.self.decls.now (links_in (drop l.link-index l.link-items))) ≡
    option_map capped_width (first_width l.self.decls.now (links_in l.link-items))
