use Rattle.std.proofs.Common.{◌≡◌, ℕ, ◌<◌, length, take}
use Rattle.net_compose.specs.SortedContacts.{listed_at}
use Rattle.call_compose.specs.Walking.{requests_of}
use Rattle.call_compose.proofs.procs.asking.Given as goal

abbrev pub invariant-loop-call : goal.invariant-loop-call
invariant-loop-call l = record {
  count : length l.lists.items ≡ l.count;
  asking : (proc : ℕ) → proc < l.count → listed_at l.lists.items proc ≡ requests_of proc (take l.call-index l.calls);
}
