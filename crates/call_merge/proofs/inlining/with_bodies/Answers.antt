use Rattle.std.proofs.Common.{◌≡◌, ◌++◌, List, subst}
use Rattle.std.specs.Prelude.{IfOk}
use Rattle.chp_syntax.specs.declared.tree.Decl.{Decl}
use Rattle.call_merge.proofs.PlainPrograms.{decls_made, body_made}
use Rattle.call_merge.proofs.inlining.with_bodies.Goals as goal

pub returns-clause-decls : goal.returns-clause-decls
returns-clause-decls c =
    let more = subst (λ (ds : List Decl). IfOk c.decls_with-decls.result (λ made. made.items ≡ ds ++ c.args.split.vars.items)) c.deref.ensures.value
    c.decls_with-decls.ensures in
    decls_made c.plain_program.result c.decls_with-decls.result _ c.plain_program.ensures.decls more

pub returns-clause-body : goal.returns-clause-body
returns-clause-body c = body_made c.plain_program.result c.inlined-body.result _ c.plain_program.ensures.made c.plain_program.ensures.body
    c.inlined-body.ensures
