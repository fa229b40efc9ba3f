use Rattle.std.proofs.Common.{◌≡◌, ◌≤◌, [], length, map, take, drop, None}
use Rattle.chp_syntax.specs.declared.tree.Decl.{Decl}
use Rattle.width_check.specs.Walk.{first_double}
use Rattle.width_check.proofs.naming.name_all.Given as goal

abbrev pub invariant-loop-decl : goal.invariant-loop-decl
invariant-loop-decl l = record {
  places : first_double l.names l.double (drop l.decl-index l.decls) ≡ first_double [] None l.decls;
  few : length l.names ≤ l.decl-index;
  all : l.double ≡ None → l.names ≡ map (λ (d : Decl). d.name.name) (take l.decl-index l.decls);
}
