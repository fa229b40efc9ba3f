use Rattle.circuit_places.proofs.Carry.{circuits_carry}
use Rattle.circuit_places.proofs.laws.circuits_carry.Goals as goal

pub returns : goal.returns
returns c = circuits_carry c.tree_settles.ensures c.expressions_hold.ensures
