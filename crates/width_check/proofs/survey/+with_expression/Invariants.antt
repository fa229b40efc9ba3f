use Rattle.std.proofs.Common.{◌≡◌, ◌+◌, ◌≤◌, drop}
use Rattle.width_check.specs.Places.{own_widths}
use Rattle.width_check.specs.Walk.{noted, capped_width, met_in_links, join_parts, links_in}
use Rattle.width_check.proofs.Swapping.{noted_parts}
use Rattle.width_check.proofs.survey.+with_expression.Given as goal

abbrev pub invariant-loop-part : goal.invariant-loop-part
invariant-loop-part l = record {
  found : noted_parts l.scope.decls.now l.findings (join_parts (drop l.part-index l.part-items)) ≡ noted_parts l.scope.decls.now l.fn.findings
      (join_parts l.part-items);
  own : capped_width (l.own + own_widths l.scope.decls.now (join_parts (drop l.part-index l.part-items))) ≡
      capped_width (own_widths l.scope.decls.now (join_parts l.part-items));
  most : l.own ≤ 65;
}

abbrev pub invariant-loop-link : goal.invariant-loop-link
invariant-loop-link l = noted l.scope.decls.now l.findings (met_in_links l.scope.decls.now l.width (links_in (drop l.link-index l.link-items))) ≡
    noted l.scope.decls.now l.initial.findings (met_in_links l.scope.decls.now l.width (links_in l.link-items))

abbrev pub decreases-with_expression : goal.decreases-with_expression
decreases-with_expression l = goal.size-with_expression l
