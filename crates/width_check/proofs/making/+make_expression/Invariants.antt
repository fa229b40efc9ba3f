use Rattle.std.proofs.Common.{◌≡◌, drop}
use Rattle.std.specs.Prelude.{Contains, IfOk}
use Rattle.std.specs.declared.alloc.Global.{Global}
use Rattle.std.specs.declared.vec.Vec.{Vec}
use Rattle.chp_base.specs.declared.span.Span.{Span}
use Rattle.chp_syntax.specs.Shape.{AreShapedParts, AreShapedLinks}
use Rattle.width_check.specs.declared.typed.TExpr.{TExpr}
use Rattle.width_check.specs.declared.typed.TLink.{TLink}
use Rattle.width_check.specs.Form.{parts_form, operations_form}
use Rattle.width_check.specs.Sound.{IsSound}
use Rattle.width_check.specs.Walk.{lacking_parts, met_in_parts, met_in_links, join_parts, links_in}
use Rattle.width_check.proofs.Makings.{before_parts, before_links}
use Rattle.width_check.proofs.making.+make_expression.Given as goal

abbrev pub invariant-loop-part : goal.invariant-loop-part
invariant-loop-part l = record {
  made : IfOk l.made (λ (m : Vec TExpr Global). before_parts m.items (parts_form l.scope.decls.now (join_parts (drop l.part-index l.part-items))) ≡
      parts_form l.scope.decls.now (join_parts l.part-items));
  shaped : AreShapedParts (join_parts (drop l.part-index l.part-items));
  full : (s : Span) → ¬ Contains (lacking_parts l.scope.decls.now (join_parts (drop l.part-index l.part-items))) s;
  sound : IsSound l.scope.decls.now (met_in_parts l.scope.decls.now (join_parts (drop l.part-index l.part-items)));
}

abbrev pub invariant-loop-link : goal.invariant-loop-link
invariant-loop-link l = record {
  made : IfOk l.made (λ (m : Vec TLink Global). before_links m.items (operations_form l.scope.decls.now l.width (links_in (drop l.link-index l.link-items))) ≡
      operations_form l.scope.decls.now l.width (links_in l.link-items));
  shaped : AreShapedLinks (links_in (drop l.link-index l.link-items));
  sound : IsSound l.scope.decls.now (met_in_links l.scope.decls.now l.width (links_in (drop l.link-index l.link-items)));
}

abbrev pub decreases-make_expression : goal.decreases-make_expression
decreases-make_expression l = goal.size-make_expression l
