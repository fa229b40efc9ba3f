use Rattle.circuit_places.proofs.Settle.{cells_on_time}
use Rattle.net_compose.proofs.TranslationTime.{plainly_keeps_time}
use Rattle.net_compose.proofs.laws.plain_nets_keep_time.Goals as goal

pub returns : goal.returns
returns c = λ p is plain small. plainly_keeps_time (cells_on_time c.tree_settles.ensures c.expressions_hold.ensures) p is.typed is.sharing plain
    (c.whole_nets.ensures p is.typed small) (c.carries.ensures p is)
