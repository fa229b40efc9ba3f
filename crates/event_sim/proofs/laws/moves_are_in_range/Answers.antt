use Rattle.env_script.proofs.MovesWithin.{move_in}
use Rattle.event_sim.proofs.laws.moves_are_in_range.Goals as goal

pub returns : goal.returns
returns c = move_in
