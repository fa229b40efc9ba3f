use Rattle.call_map.proofs.CallHolds.{call_counted}
use Rattle.call_map.proofs.shared_bodies_counted.Goals as goal

pub returns : goal.returns
returns c = call_counted
