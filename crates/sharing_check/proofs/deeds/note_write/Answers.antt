use Rattle.std.proofs.Common.{refl}
use Rattle.std.proofs.lemmas.Result.{on_ok_weaker}
use Rattle.chp_base.specs.declared.fault.FaultCode.TheVariants as code
use Rattle.width_check.specs.Sharing.{writes_var}
use Rattle.sharing_check.proofs.Telling.{adds_exclusive}
use Rattle.sharing_check.proofs.deeds.note_write.Goals as goal

pub returns-in-SharedVariable : goal.returns-in-SharedVariable
returns-in-SharedVariable c =
    on_ok_weaker c.note.result (λ notes. adds_exclusive _ code.SharedVariable (writes_var c.args.var) c.args.var c.args.at _ _ c.in-SharedVariable.is (λ x h. h)
    refl (λ x h. h) notes refl refl) c.note.ensures
