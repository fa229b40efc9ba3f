use Rattle.std.proofs.Common.{length}
use Rattle.cell_select.specs.Selections.{turn_request}
use Rattle.cell_select.proofs.GuardLemmas.{two_within, either_within}
use Rattle.cell_select.proofs.emit.emit_turn.Goals as goal

pub set_both-requires-clause-up : goal.set_both-requires-clause-up
set_both-requires-clause-up c =
    two_within (length c.args.rules.now.up) _ _ _ _ _ c.all_of-up.ensures c.high.ensures c.low.ensures c.requires.request c.requires.joined

pub set_both-requires-clause-down : goal.set_both-requires-clause-down
set_both-requires-clause-down c =
    either_within (length c.args.rules.now.up) _ _ _ _ _ c.either-down.ensures c.high-2.ensures c.low-2.ensures c.requires.joined c.requires.request

pub returns-clause-made : goal.returns-clause-made
returns-clause-made c =
    c.set_both.ensures.made (turn_request c.args.request c.args.joined) (rw (c.high.ensures, c.low.ensures) at c.all_of-up.ensures)
    (rw (c.high-2.ensures, c.low-2.ensures) at c.either-down.ensures)
