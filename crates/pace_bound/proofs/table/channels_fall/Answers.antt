use Rattle.width_check.specs.Typed.{program_of}
use Rattle.pace_bound.proofs.Holding.{receive_sites}
use Rattle.pace_bound.proofs.Ending.{same_table}
use Rattle.pace_bound.proofs.table.channels_fall.Goals as goal

pub settle_ends-requires-clause-noted : goal.settle_ends-requires-clause-noted
settle_ends-requires-clause-noted c =
    let P = program_of c.args.program.now in
    rw c.deref_mut.ensures.value (same_table _ _ _ _ (rw c.channels-count.ensures at c.in_ok-table.ensures) (λ k. receive_sites P k 2 1 P.body))
