use Rattle.std.proofs.Common.{length}
use Rattle.cell_select.proofs.GuardLemmas.{some_within, lows_within}
use Rattle.cell_select.proofs.Emitted.{some_of, some_or}
use Rattle.cell_select.proofs.emit.emit_any.Goals as goal

pub set_both-requires-clause-up : goal.set_both-requires-clause-up
set_both-requires-clause-up c = some_within (length c.args.rules.now.up) c.args.inputs.now _ c.some_high-up.ensures c.requires.inputs

pub set_both-requires-clause-down : goal.set_both-requires-clause-down
set_both-requires-clause-down c = lows_within (length c.args.rules.now.up) c.args.inputs.now _ c.all_low-down.ensures c.requires.inputs

pub returns-clause-made : goal.returns-clause-made
returns-clause-made c =
    rw (some_or c.args.inputs.now c.requires.some)
    (c.set_both.ensures.made (some_of c.args.inputs.now) c.some_high-up.ensures c.all_low-down.ensures)
