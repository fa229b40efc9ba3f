use Rattle.std.proofs.Common.{map, sym, ap, ◌∙◌}
use Rattle.std.proofs.lemmas.List.{take_all}
use Rattle.chp_syntax.specs.declared.tree.Proc.{Proc}
use Rattle.call_merge.proofs.NamesAdded.{name_added}
use Rattle.call_merge.proofs.Whole.{names_apart}
use Rattle.call_compose.proofs.Noting.{procedures_named}
use Rattle.call_compose.proofs.bodies.procedure_names.Goals as goal

pub loop-procedure-preserved : goal.loop-procedure-preserved
loop-procedure-preserved c =
    let apart = names_apart c.args.program.now c.deref-procedure-items.result.now c.deref-procedure-items.ensures.value c.requires.meets.named.0 in
    name_added c.deref-procedure-items.result.now c.loop-procedure.procedure-index c.procedure-item.result c.loop-procedure.names c.add.new.self
    c.in_ok-copy.field-0 c.in_ok-add.field-0 c.loop-procedure-test.true c.procedure-item.is apart c.loop-procedure.invariant c.in_ok-copy.ensures
    c.in_ok-add.ensures.place c.in_ok-add.ensures.added

pub returns : goal.returns
returns c =
    c.loop-procedure.invariant
    ∙ ap (map (λ (q : Proc). q.name.name)) (take_all c.loop-procedure.procedure-index c.deref-procedure-items.result.now c.loop-procedure-test.false
    ∙ c.deref-procedure-items.ensures.value)
    ∙ sym (procedures_named c.args.program.now.procs.items)
