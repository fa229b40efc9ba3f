use Rattle.call_map.proofs.CallLayers.{all_layers}
use Rattle.call_map.proofs.shared_bodies_layers.Goals as goal

pub returns : goal.returns
returns c = all_layers c.carries.ensures c.parts_in_turns.ensures
