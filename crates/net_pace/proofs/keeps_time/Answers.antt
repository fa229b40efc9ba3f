use Rattle.circuit_places.proofs.Settle.{cells_on_time}
use Rattle.circuit_ranks.proofs.Lowers.{rounds_in_longest}
use Rattle.net_pace.proofs.RoundKept.{round_kept}
use Rattle.net_pace.proofs.keeps_time.Goals as goal

pub returns : goal.returns
returns c = round_kept c.halves_are_plain.ensures c.halves_keep_rounds.ensures
    (rounds_in_longest c.tree_settles.ensures c.expressions_hold.ensures) (cells_on_time c.tree_settles.ensures c.expressions_hold.ensures)
    c.plain_nets_keep_time.ensures c.whole_nets.ensures c.carries.ensures
