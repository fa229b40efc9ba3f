use Rattle.circuit_places.proofs.PartTurns.{all_take_turns}
use Rattle.circuit_places.proofs.laws.parts_take_turns.Goals as goal

pub returns : goal.returns
returns c = all_take_turns c.tree_settles.ensures c.expressions_hold.ensures
