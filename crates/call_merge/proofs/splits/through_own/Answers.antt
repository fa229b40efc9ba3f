use Rattle.std.proofs.Common.{List, map, ap, ◌∙◌}
use Rattle.chp_syntax.specs.declared.tree.Expr.TheVariants.{Whole}
use Rattle.chp_syntax.specs.declared.tree.Stmt.{Stmt}
use Rattle.chp_syntax.specs.declared.tree.Stmt.TheVariants.{Assign}
use Rattle.chp_syntax.specs.Trees.{follows, no_members, and_member}
use Rattle.chp_syntax.specs.View.{statement_of, onto}
use Rattle.chp_syntax.proofs.Rows.{then_tree}
use Rattle.call_merge.proofs.Ands.{two_pushed}
use Rattle.call_merge.proofs.OwnHalves.{halves}
use Rattle.call_merge.proofs.splits.through_own.Goals as goal

pub returns : goal.returns
returns c =
    let keeps = Assign c.in_ok-name_at.field-0 c.in_ok-copied_expression.field-0 in
    let moves = Assign c.in_ok-copied_name.field-0 (Whole c.in_ok-name_at-2.field-0) in
    let both = two_pushed c.new-parts.result.items c.push.new.self.items c.push-2.new.self.items keeps moves c.new-parts.ensures.items
    c.in_ok-push.ensures.items c.in_ok-push-2.ensures.items in
    ap statement_of c.in_ok-new.ensures.ok
    ∙ (then_tree c.push-2.new.self
    ∙ (ap (λ (xs : List Stmt). follows (onto and_member (map statement_of xs) no_members)) both
    ∙ halves c.args.name.now c.args.target.now _ _ _ _ _ c.in_ok-name_at.ensures c.in_ok-copied_expression.ensures c.in_ok-copied_name.ensures
    c.in_ok-name_at-2.ensures))
