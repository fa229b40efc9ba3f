use Rattle.std.proofs.Common.{ℕ, map, nat_eq}
use Rattle.std.specs.HashMap.{get}
use Rattle.std.specs.Map.Iter.{deref_pair}
use Rattle.width_check.specs.Order.{IsNoLater}
use Rattle.sharing_check.specs.Leasts.{IsLeast}
use Rattle.sharing_check.proofs.TableLemmas.{IsOneOf}
use Rattle.sharing_check.proofs.table.with_noted.Given as goal

abbrev pub invariant-loop-name : goal.invariant-loop-name
invariant-loop-name l = (x : ℕ) → IsLeast IsNoLater (IsOneOf (get nat_eq l.initial.table x) (map deref_pair l.yielded) x) (get nat_eq l.table x)
