use Rattle.circuit_places.proofs.Settle.{cells_on_time}
use Rattle.net_compose.proofs.TranslationTime.{halves_keep_time}
use Rattle.net_compose.proofs.laws.nets_keep_time.Goals as goal

pub returns : goal.returns
returns c = λ p is small. halves_keep_time c.halves_are_plain.ensures (cells_on_time c.tree_settles.ensures c.expressions_hold.ensures) p is.typed is.sharing
    (c.whole_nets.ensures p is.typed small) (c.carries.ensures p is)
