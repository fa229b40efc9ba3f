use Rattle.call_map.proofs.CallReset.{call_net_resets}
use Rattle.call_map.proofs.shared_bodies_carry_reset.Goals as goal

pub returns : goal.returns
returns c = call_net_resets c.carries_reset.ensures c.shared_bodies_carry.ensures c.shared_bodies_hold.ensures
