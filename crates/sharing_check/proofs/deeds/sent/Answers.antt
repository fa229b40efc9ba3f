use Rattle.std.proofs.Common.{sym, subst}
use Rattle.width_check.specs.Processes.{sending}
use Rattle.width_check.specs.View.{formula_of}
use Rattle.sharing_check.specs.declared.deeds.Deeds.{Deeds}
use Rattle.sharing_check.specs.Tells.{Tells}
use Rattle.sharing_check.proofs.Telling.{adds_more, tells_alone}
use Rattle.sharing_check.proofs.deeds.sent.Goals as goal

pub returns : goal.returns
returns c = subst (λ (d : Deeds). Tells c.args.cause (sending c.args.chan c.args.at (formula_of c.args.value.now)) d) (sym c.in_ok-new.ensures.ok)
    (tells_alone _ _ _ _ (λ a b h. h) (c.no_deeds-deeds.ensures c.args.cause)
    (adds_more _ _ _ _ _ _ c.in_ok-note_send.ensures c.in_ok-note_reads.ensures))
