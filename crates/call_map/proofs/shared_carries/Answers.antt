use Rattle.call_map.proofs.Carried.{shared_carries}
use Rattle.call_map.proofs.shared_carries.Goals as goal

pub returns : goal.returns
returns c = shared_carries c.steps_taken.ensures c.rounds_hold.ensures
