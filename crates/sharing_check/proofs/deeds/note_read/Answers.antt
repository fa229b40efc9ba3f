use Rattle.std.proofs.Common.{refl}
use Rattle.std.proofs.lemmas.Result.{on_ok_weaker}
use Rattle.sharing_check.proofs.Telling.{adds_common}
use Rattle.sharing_check.proofs.deeds.note_read.Goals as goal

pub returns-in-SharedVariable : goal.returns-in-SharedVariable
returns-in-SharedVariable c = on_ok_weaker c.note.result (λ notes. adds_common _ c.args.var c.args.at _ _ c.in-SharedVariable.is notes refl refl) c.note.ensures
