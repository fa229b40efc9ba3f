use Rattle.std.proofs.Common.{length}
use Rattle.cell_select.specs.Selections.{joined_answer}
use Rattle.cell_select.proofs.GuardLemmas.{some_within, with_lows_within}
use Rattle.cell_select.proofs.emit.emit_joined.Goals as goal

pub set_both-requires-clause-up : goal.set_both-requires-clause-up
set_both-requires-clause-up c = some_within (length c.args.rules.now.up) c.args.answers.now _ c.some_high-up.ensures c.requires.answers

pub set_both-requires-clause-down : goal.set_both-requires-clause-down
set_both-requires-clause-down c =
    with_lows_within (length c.args.rules.now.up) _ _ c.args.answers.now _ c.with_lows-down.ensures c.low.ensures c.requires.any c.requires.answers

pub returns-clause-made : goal.returns-clause-made
returns-clause-made c =
    c.set_both.ensures.made (joined_answer c.args.any c.args.answers.now) c.some_high-up.ensures (rw c.low.ensures at c.with_lows-down.ensures)
