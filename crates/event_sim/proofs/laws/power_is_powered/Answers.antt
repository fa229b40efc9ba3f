use Rattle.event_sim.proofs.Wholes.{powered}
use Rattle.event_sim.proofs.laws.power_is_powered.Goals as goal

pub returns : goal.returns
returns c = powered
