use Rattle.std.proofs.Common.{sym, subst}
use Rattle.width_check.specs.Processes.{receiving}
use Rattle.sharing_check.specs.declared.deeds.Deeds.{Deeds}
use Rattle.sharing_check.specs.Tells.{Tells}
use Rattle.sharing_check.proofs.Telling.{adds_more, tells_alone}
use Rattle.sharing_check.proofs.deeds.received.Goals as goal

pub returns : goal.returns
returns c = subst (λ (d : Deeds). Tells c.args.cause (receiving c.args.chan c.args.chan_at c.args.var c.args.var_at) d) (sym c.in_ok-new.ensures.ok)
    (tells_alone _ _ _ _ (λ a b h. h) (c.no_deeds-deeds.ensures c.args.cause)
    (adds_more _ _ _ _ _ _ c.in_ok-note_receive.ensures c.in_ok-note_write.ensures))
