use Rattle.std.proofs.Common.{map, nat_eq}
use Rattle.std.specs.HashMap.{get}
use Rattle.std.specs.Map.Iter.{deref_pair}
use Rattle.sharing_check.specs.Leasts.{IsLeast, IsNoLaterPair}
use Rattle.sharing_check.proofs.TableLemmas.{MeetingAmong}
use Rattle.sharing_check.proofs.table.first_among.Given as goal

abbrev pub invariant-loop-name : goal.invariant-loop-name
invariant-loop-name l = IsLeast IsNoLaterPair (MeetingAmong (map deref_pair l.yielded) (get nat_eq l.many)) l.first
