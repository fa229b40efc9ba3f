use Rattle.std.proofs.lemmas.Result.{on_ok_weaker}
use Rattle.call_merge.proofs.Flats.{uses_noted}
use Rattle.call_merge.proofs.own_vars.note_all_uses.Goals as goal

pub returns : goal.returns
returns c = on_ok_weaker c.note_uses-2.result
    (λ here. uses_noted c.args.program.now _ c.loop-procedure.procedure-index c.args.names.now.items c.loop-procedure.names.items c.note_uses-2.new.names.items
    c.deref-procedure-items.ensures.value c.loop-procedure-test.false c.loop-procedure.invariant here) c.note_uses-2.ensures
