use Rattle.std.proofs.Common.{length, sym, subst}
use Rattle.prs_core.specs.Nets.{IsBelow}
use Rattle.cell_variable.proofs.Merges.{terms_below, lows_below}
use Rattle.cell_variable.proofs.merge.emit_or.Goals as goal

pub set_both-requires-2-clause-up : goal.set_both-requires-2-clause-up
set_both-requires-2-clause-up c =
    subst (IsBelow (length c.args.rules.now.up)) (sym c.in_ok-up.ensures) (terms_below (length c.args.rules.now.up) c.args.inputs.now c.requires.inputs)

pub set_both-requires-2-clause-down : goal.set_both-requires-2-clause-down
set_both-requires-2-clause-down c =
    subst (IsBelow (length c.args.rules.now.up)) (sym c.in_ok-down.ensures) (lows_below (length c.args.rules.now.up) c.args.inputs.now c.requires.inputs)
