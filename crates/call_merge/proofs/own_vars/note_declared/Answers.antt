use Rattle.call_merge.proofs.Flats.{declared_noted}
use Rattle.call_merge.proofs.own_vars.note_declared.Goals as goal

pub returns : goal.returns
returns c = declared_noted c.args.program.now c.deref-decl-items.result.now c.deref-procedure-items.result.now c.loop-decl.decl-index
    c.loop-procedure.procedure-index c.args.names.now.items c.loop-decl.names.items c.loop-procedure.names.items c.deref-decl-items.ensures.value
    c.deref-procedure-items.ensures.value c.loop-decl-test.false c.loop-procedure-test.false c.loop-decl.invariant c.loop-procedure.invariant
