use Rattle.std.proofs.Common.{◌≡◌, ◌++◌, drop}
use Rattle.width_check.specs.Typed.{program_of}
use Rattle.net_compose.specs.SortedContacts.{listed_at, blocks_by}
use Rattle.net_compose.proofs.declared.vars.Given as goal

abbrev pub invariant-loop-number : goal.invariant-loop-number
invariant-loop-number l =
    l.drivers.items ++ blocks_by (program_of l.program) (λ x. listed_at l.sorted.written.items x) l.number (drop l.number l.program.vars)
    ≡ l.fn.drivers.items ++ blocks_by (program_of l.program) (λ x. listed_at l.sorted.written.items x) 0 l.program.vars
