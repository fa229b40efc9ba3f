use Rattle.std.proofs.Common.{List, [], ◌∷◌, ◌++◌, ap, ◌∙◌}
use Rattle.chp_syntax.specs.declared.tree.Expr.TheVariants.{Whole}
use Rattle.chp_syntax.specs.declared.tree.Stmt.{Stmt}
use Rattle.chp_syntax.specs.declared.tree.Stmt.TheVariants.{Receive, Send}
use Rattle.slack_buffer.proofs.Making.{turn_made}
use Rattle.slack_buffer.proofs.buffer.buffer_statement.Goals as goal

pub returns : goal.returns
returns c =
    let takes : Stmt = Receive c.in_ok-made_name.field-0 c.in_ok-made_name-2.field-0 in
    let gives : Stmt = Send c.in_ok-made_name-3.field-0 (Whole c.in_ok-made_name-4.field-0) in
    let both = c.in_ok-push-2.ensures.items
    ∙ ap (λ (xs : List Stmt). xs ++ gives ∷ []) (c.in_ok-push.ensures.items ∙ ap (λ (xs : List Stmt). xs ++ takes ∷ []) c.new-parts.ensures.items) in
    turn_made c.push-2.new.self c.in_ok-new.field-0.value c.args.chan.now c.args.names.now.copy c.args.names.now.slot
    c.in_ok-made_name.field-0 c.in_ok-made_name-2.field-0 c.in_ok-made_name-3.field-0 c.in_ok-made_name-4.field-0 c.in_ok-new.ensures.ok
    both c.in_ok-made_name.ensures c.in_ok-made_name-2.ensures c.in_ok-made_name-3.ensures c.in_ok-made_name-4.ensures
