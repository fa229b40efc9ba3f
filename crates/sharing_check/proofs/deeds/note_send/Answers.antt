use Rattle.std.proofs.Common.{refl}
use Rattle.std.proofs.lemmas.Result.{on_ok_weaker}
use Rattle.chp_base.specs.declared.fault.FaultCode.TheVariants as code
use Rattle.width_check.specs.Sharing.{sends_on}
use Rattle.sharing_check.proofs.Telling.{adds_exclusive}
use Rattle.sharing_check.proofs.deeds.note_send.Goals as goal

pub returns-in-SharedSend : goal.returns-in-SharedSend
returns-in-SharedSend c =
    on_ok_weaker c.note.result (λ notes. adds_exclusive _ code.SharedSend (sends_on c.args.chan) c.args.chan c.args.at _ _ c.in-SharedSend.is (λ x h. h) refl
    (λ x h. h) notes refl refl) c.note.ensures
