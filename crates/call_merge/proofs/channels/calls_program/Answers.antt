use Rattle.std.proofs.Common.{List, map, subst, ◌≡◌}
use Rattle.std.specs.Prelude.{IfOk}
use Rattle.chp_syntax.specs.declared.tree.Proc.{Proc}
use Rattle.chp_syntax.specs.View.{procedure_of, statement_of}
use Rattle.call_merge.specs.CallSites.{call_channel, call_sends}
use Rattle.call_merge.proofs.PlainPrograms.{decls_made, body_made, plain_tree}
use Rattle.call_merge.proofs.channels.calls_program.Goals as goal

pub returns : goal.returns
returns c =
    let p = c.args.program.now in
    let r = c.plain_program.result in
    let said = c.plain_program.ensures in
    let channels = subst (λ (qs : List Proc). IfOk c.call_channels-decls.result (λ made. made.items ≡ map call_channel (map procedure_of qs)))
    c.deref.ensures.value c.call_channels-decls.ensures in
    plain_tree r (map call_channel (map procedure_of p.procs.items)) (call_sends (statement_of p.body))
    (decls_made r c.call_channels-decls.result _ said.decls channels) said.procs
    (body_made r c.call_sends-body.result _ said.made said.body c.call_sends-body.ensures)
