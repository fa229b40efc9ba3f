use Rattle.std.proofs.Common.{◌≡◌, ℕ, length}
use Rattle.std.specs.List.{flat_map}
use Rattle.net_compose.specs.Contacts.{sent_by, taken_by, written_by}
use Rattle.net_compose.specs.SortedContacts.{listed_at, HasContactLists}
use Rattle.net_compose.proofs.sorted.sort_contacts.Given as goal

abbrev pub invariant-loop-contact : goal.invariant-loop-contact
invariant-loop-contact l = record {
  lists : HasContactLists (length l.program.channels) (length l.program.vars) l.sorted;
  sent : (k : ℕ) → listed_at l.sorted.sent.items k ≡ flat_map (sent_by k) l.yielded;
  taken : (k : ℕ) → listed_at l.sorted.taken.items k ≡ flat_map (taken_by k) l.yielded;
  written : (x : ℕ) → listed_at l.sorted.written.items x ≡ flat_map (written_by x) l.yielded;
}
