use Rattle.event_sim.proofs.Wholes.{passed_histories}
use Rattle.event_sim.proofs.laws.passed_are_histories.Goals as goal

pub returns : goal.returns
returns c = passed_histories
