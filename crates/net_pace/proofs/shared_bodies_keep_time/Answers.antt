use Rattle.net_pace.proofs.SharedKept.{shared_keep_time}
use Rattle.net_pace.proofs.shared_bodies_keep_time.Goals as goal

pub returns : goal.returns
returns c = shared_keep_time c.carries.ensures c.whole_nets.ensures c.keeps_time.ensures c.shared_bodies_layers.ensures c.shared_bodies_carry.ensures
    c.shared_bodies_hold.ensures
