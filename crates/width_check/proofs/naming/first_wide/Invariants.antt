use Rattle.std.proofs.Common.{◌≡◌, drop, None}
use Rattle.chp_syntax.specs.declared.tree.Decl.{Decl}
use Rattle.width_check.specs.Walk.{first_of, is_wide_first}
use Rattle.width_check.proofs.naming.first_wide.Given as goal

abbrev pub invariant-loop-decl : goal.invariant-loop-decl
invariant-loop-decl l = first_of is_wide_first (λ (d : Decl). d.first_at) l.first (drop l.decl-index l.decls) ≡
    first_of is_wide_first (λ (d : Decl). d.first_at) None l.decls
