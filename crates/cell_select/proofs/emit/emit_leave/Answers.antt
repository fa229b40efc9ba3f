use Rattle.std.proofs.Common.{length}
use Rattle.cell_select.specs.Selections.{leave_latch}
use Rattle.cell_select.specs.PortNodes.{pairs_of}
use Rattle.cell_select.proofs.GuardLemmas.{none_within, one_within}
use Rattle.cell_select.proofs.emit.emit_leave.Goals as goal

pub set_both-requires-clause-up : goal.set_both-requires-clause-up
set_both-requires-clause-up c = none_within (length c.args.rules.now.up) c.requires.pairs.0 c.args.rails.now _ c.none_true-up.ensures c.requires.pairs.1
    c.requires.rails

pub set_both-requires-clause-down : goal.set_both-requires-clause-down
set_both-requires-clause-down c = one_within (length c.args.rules.now.up) _ _ _ c.all_of-down.ensures c.low.ensures c.requires.turn

pub returns-clause-made : goal.returns-clause-made
returns-clause-made c =
    c.set_both.ensures.made (leave_latch c.args.turn (pairs_of c.args.rails.now)) c.none_true-up.ensures (rw c.low.ensures at c.all_of-down.ensures)
