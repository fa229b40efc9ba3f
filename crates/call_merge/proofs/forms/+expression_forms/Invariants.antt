use Rattle.std.proofs.Common.{◌≡◌, ◌+◌, ◌<◌, ◌^◌, drop}
use Rattle.width_check.specs.Walk.{join_parts, links_in}
use Rattle.call_merge.specs.CallForms.{capped_forms, forms_of_parts, forms_of_links}
use Rattle.call_merge.proofs.forms.+expression_forms.Given as goal

abbrev pub invariant-loop-part : goal.invariant-loop-part
invariant-loop-part l = record {
  sum : capped_forms (l.forms + forms_of_parts (join_parts (drop l.part-index l.part-items))) ≡ capped_forms (1 + forms_of_parts (join_parts l.part-items));
  small : l.forms < 2 ^ 64;
}

abbrev pub invariant-loop-link : goal.invariant-loop-link
invariant-loop-link l = record {
  sum : capped_forms (l.forms + forms_of_links (links_in (drop l.link-index l.link-items)))
      ≡ capped_forms (l.initial.forms + forms_of_links (links_in l.link-items));
  small : l.forms < 2 ^ 64;
}
