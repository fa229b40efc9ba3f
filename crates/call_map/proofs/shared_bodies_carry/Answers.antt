use Rattle.call_map.proofs.SharedBodies.{all_shared}
use Rattle.call_map.proofs.shared_bodies_carry.Goals as goal

pub returns : goal.returns
returns c = all_shared c.steps_taken.ensures c.rounds_hold.ensures c.carries.ensures c.parts_in_turns.ensures
