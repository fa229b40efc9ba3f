use Rattle.event_sim.proofs.Near.{near}
use Rattle.event_sim.proofs.laws.moves_concern_what_is_near.Goals as goal

pub returns : goal.returns
returns c = near c.only_readers.ensures
