use Rattle.width_check.specs.Typed.{program_of}
use Rattle.pace_bound.proofs.Holding.{send_sites}
use Rattle.pace_bound.proofs.Ending.{same_table}
use Rattle.pace_bound.proofs.table.rails_fall.Goals as goal

pub settle_rails-requires : goal.settle_rails-requires
settle_rails-requires c =
    let P = program_of c.args.program.now in
    rw c.deref_mut.ensures.value (same_table _ _ _ _ (rw c.channels.ensures at c.in_ok-table.ensures) (λ k. send_sites P k 2 1 P.body))
