use Rattle.sharing_check.proofs.deeds.first_clash.Goals as goal

pub returns : goal.returns
returns c = rw c.deref.ensures c.in_ok-deeds.ensures.clash
