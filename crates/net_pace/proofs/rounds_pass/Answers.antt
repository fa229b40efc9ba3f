use Rattle.circuit_sums.proofs.Sums.{rounds_in_sums}
use Rattle.net_pace.proofs.RoundsPassed.{passes_rounds, rounds_passed, shared_rounds_passed}
use Rattle.net_pace.proofs.rounds_pass.Goals as goal

pub returns-clause-every : goal.returns-clause-every
returns-clause-every c = rounds_passed c.halves_are_plain.ensures c.halves_keep_rounds.ensures
    (rounds_in_sums c.tree_settles.ensures c.expressions_hold.ensures) c.reset_runs.ensures c.carries.ensures c.whole_nets.ensures c.keeps_time.ensures

pub returns-clause-shared : goal.returns-clause-shared
returns-clause-shared c = shared_rounds_passed c.halves_are_plain.ensures c.halves_keep_rounds.ensures
    (rounds_in_sums c.tree_settles.ensures c.expressions_hold.ensures) c.reset_runs.ensures c.carries.ensures c.whole_nets.ensures c.keeps_time.ensures
    c.shared_bodies_layers.ensures c.shared_bodies_carry.ensures c.shared_bodies_hold.ensures

pub returns-clause-net : goal.returns-clause-net
returns-clause-net c = passes_rounds c.reset_runs.ensures
