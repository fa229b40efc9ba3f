use Rattle.std.proofs.Common.{ap, ◌∙◌}
use Rattle.chp_syntax.specs.declared.tree.DeclKind.TheVariants as declares
use Rattle.slack_buffer.specs.BufferedTrees.{made_decl}
use Rattle.slack_buffer.proofs.Making.{decls_pushed}
use Rattle.slack_buffer.proofs.buffer.buffered_decls.Goals as goal

pub returns : goal.returns
returns c = decls_pushed c.args.decls.now c.in_ok-made.made.items c.push.new.self.items c.push-2.new.self.items c.in_ok-made_decl.field-0
    c.in_ok-made_decl-2.field-0 _ _ c.in_ok-push-2.ensures.items c.in_ok-push.ensures.items c.in_ok-made.ensures
    (c.in_ok-made_decl.ensures ∙ ap (λ w. made_decl declares.Chan c.args.names.now.copy w) c.width_of-width.ensures)
    (c.in_ok-made_decl-2.ensures ∙ ap (λ w. made_decl declares.Var c.args.names.now.slot w) c.width_of-width.ensures)
