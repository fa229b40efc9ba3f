use Rattle.std.proofs.Common.{◌≡◌, [], ◌∷◌, length, IfOk}
use Rattle.prs_core.specs.Nets.{is_high, GuardValue}
use Rattle.prs_core.specs.Pairs.{lows, rails_of}
use Rattle.cell_select.specs.Selections.{leave_answer}
use Rattle.cell_select.specs.PortNodes.{pairs_of}
use Rattle.cell_select.proofs.GuardLemmas.{with_lows_within, one_within}
use Rattle.cell_select.proofs.PairLists.{rails_again}
use Rattle.cell_select.proofs.emit.emit_end.Goals as goal

pub set_both-requires-clause-up : goal.set_both-requires-clause-up
set_both-requires-clause-up c =
    with_lows_within (length c.args.rules.now.up) _ _ c.args.rails.now _ c.with_lows-up.ensures c.high.ensures c.requires.leave c.requires.rails

pub set_both-requires-clause-down : goal.set_both-requires-clause-down
set_both-requires-clause-down c = one_within (length c.args.rules.now.up) _ _ _ c.all_of-down.ensures c.low.ensures c.requires.any

pub returns-clause-made : goal.returns-clause-made
returns-clause-made c =
    let again = rails_again c.requires.pairs.0 c.args.rails.now c.requires.pairs.1 in
    let up : IfOk c.with_lows-up.result (λ (g : GuardValue). g ≡ (is_high c.args.leave ∷ lows (rails_of (pairs_of c.args.rails.now))) ∷ []) =
    rw again (rw c.high.ensures at c.with_lows-up.ensures) in
    c.set_both.ensures.made (leave_answer c.args.leave c.args.any (pairs_of c.args.rails.now)) up (rw c.low.ensures at c.all_of-down.ensures)
