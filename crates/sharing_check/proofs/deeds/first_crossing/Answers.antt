use Rattle.sharing_check.proofs.Orders.{pair_trans}
use Rattle.sharing_check.proofs.LeastLemmas.{least_both}
use Rattle.sharing_check.proofs.deeds.first_crossing.Goals as goal

pub returns : goal.returns
returns c = least_both pair_trans c.first_meeting-exclusive.ensures (least_both pair_trans c.first_meeting-left.ensures c.first_meeting-right.ensures
    c.sooner.ensures) c.sooner-2.ensures
