use Rattle.std.proofs.Common.{refl}
use Rattle.std.proofs.lemmas.Result.{on_ok_weaker}
use Rattle.chp_base.specs.declared.fault.FaultCode.TheVariants as code
use Rattle.width_check.specs.Sharing.{receives_on}
use Rattle.sharing_check.proofs.Telling.{adds_exclusive}
use Rattle.sharing_check.proofs.deeds.note_receive.Goals as goal

pub returns-in-SharedReceive : goal.returns-in-SharedReceive
returns-in-SharedReceive c =
    on_ok_weaker c.note.result (λ notes. adds_exclusive _ code.SharedReceive (receives_on c.args.chan) c.args.chan c.args.at _ _ c.in-SharedReceive.is
    (λ x h. h) refl (λ x h. h) notes refl refl) c.note.ensures
