use Rattle.sharing_check.proofs.Telling.{unshared, first_shared}
use Rattle.sharing_check.proofs.disjoint.refuse_shared.Goals as goal

pub returns-in-Some-clause-place : goal.returns-in-Some-clause-place
returns-in-Some-clause-place c = first_shared _ _ _ _ c.in-Some.is c.in_ok-clash.ensures

pub returns-in-None-clause-unshared : goal.returns-in-None-clause-unshared
returns-in-None-clause-unshared c = unshared _ _ _ c.in-None.is c.in_ok-clash.ensures
