use Rattle.std.proofs.Common.{◌≡◌, List, drop}
use Rattle.std.specs.Prelude.{is_none}
use Rattle.chp_syntax.specs.declared.tree.Decl.{Decl}
use Rattle.width_check.specs.Places.{first_width}
use Rattle.width_check.specs.Walk.{links_in}
use Rattle.width_check.proofs.scope.+is_widthless.Given as goal

abbrev pub invariant-loop-link : goal.invariant-loop-link
invariant-loop-link l = (ds : List Decl) →
    is_none (first_width ds (links_in (drop l.link-index l.link-items))) ≡ is_none (first_width ds (links_in l.link-items))
