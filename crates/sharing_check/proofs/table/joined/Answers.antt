use Rattle.std.proofs.lemmas.Result.{IfOk-weaker}
use Rattle.sharing_check.proofs.TableLemmas.{joins_sym}
use Rattle.sharing_check.proofs.table.joined.Goals as goal

pub returns-then-len : goal.returns-then-len
returns-then-len c = IfOk-weaker c.with_noted.result _ _ (λ new. joins_sym _ _ _) c.with_noted.ensures
