use Rattle.std.proofs.Common.{length}
use Rattle.cell_select.specs.Selections.{evaluation}
use Rattle.cell_select.proofs.GuardLemmas.{one_within, two_within}
use Rattle.cell_select.proofs.emit.emit_evaluation.Goals as goal

pub set_both-requires-clause-up : goal.set_both-requires-clause-up
set_both-requires-clause-up c =
    two_within (length c.args.rules.now.up) _ _ _ _ _ c.all_of-up.ensures c.high.ensures c.low.ensures c.requires.request c.requires.any

pub set_both-requires-clause-down : goal.set_both-requires-clause-down
set_both-requires-clause-down c = one_within (length c.args.rules.now.up) _ _ _ c.all_of-down.ensures c.high-2.ensures c.requires.any

pub returns-clause-made : goal.returns-clause-made
returns-clause-made c =
    c.set_both.ensures.made (evaluation c.args.request c.args.any) (rw (c.high.ensures, c.low.ensures) at c.all_of-up.ensures)
    (rw c.high-2.ensures at c.all_of-down.ensures)
