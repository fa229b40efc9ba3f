use Rattle.std.proofs.Common.{◌≡◌, ◌≤◌, ◌++◌, drop}
use Rattle.width_check.specs.Sound.{numbers_of}
use Rattle.width_check.proofs.naming.number_all.Given as goal

abbrev pub invariant-loop-decl : goal.invariant-loop-decl
invariant-loop-decl l = record {
  so_far : l.numbers.items ++ numbers_of l.channels l.vars (drop l.decl-index l.decls) ≡ numbers_of 0 0 l.decls;
  channels : l.channels ≤ l.decl-index;
  vars : l.vars ≤ l.decl-index;
}
