use Rattle.std.proofs.Common.{◌≡◌, ℕ, [], length}
use Rattle.net_compose.specs.SortedContacts.{listed_at}
use Rattle.net_compose.proofs.sorted.no_lists.Given as goal

abbrev pub invariant-loop-number : goal.invariant-loop-number
invariant-loop-number g l = record {
  none : (k : ℕ) → listed_at l.lists.items k ≡ [];
  count : length l.lists.items ≡ l._number;
}
