use Rattle.event_sim.proofs.Wholes.{safe_is_calm}
use Rattle.event_sim.proofs.laws.safe_moves_bring_no_hazard.Goals as goal

pub returns : goal.returns
returns c = safe_is_calm
