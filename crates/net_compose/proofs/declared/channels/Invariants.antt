use Rattle.std.proofs.Common.{◌≡◌, ◌++◌, drop}
use Rattle.net_compose.specs.SortedContacts.{listed_at, wires_by}
use Rattle.net_compose.proofs.declared.channels.Given as goal

abbrev pub invariant-loop-chan : goal.invariant-loop-chan
invariant-loop-chan l =
    l.drivers.items ++ wires_by (λ k. listed_at l.sorted.sent.items k) (λ k. listed_at l.sorted.taken.items k) l.chan (drop l.chan l.program.channels)
    ≡ l.fn.drivers.items ++ wires_by (λ k. listed_at l.sorted.sent.items k) (λ k. listed_at l.sorted.taken.items k) 0 l.program.channels
