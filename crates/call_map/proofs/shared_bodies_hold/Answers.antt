use Rattle.call_map.proofs.CallHolds.{call_net_is}
use Rattle.call_map.proofs.shared_bodies_hold.Goals as goal

pub returns : goal.returns
returns c = call_net_is
