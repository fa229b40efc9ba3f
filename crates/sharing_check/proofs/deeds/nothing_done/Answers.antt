use Rattle.std.proofs.Common.{sym, subst}
use Rattle.width_check.specs.Processes.{skipping}
use Rattle.sharing_check.specs.declared.deeds.Deeds.{Deeds}
use Rattle.sharing_check.specs.Tells.{Tells}
use Rattle.sharing_check.proofs.deeds.nothing_done.Goals as goal

pub returns : goal.returns
returns c cause = subst (λ (d : Deeds). Tells cause skipping d) (sym c.in_ok-new.ensures.ok) (c.no_deeds.ensures cause)
