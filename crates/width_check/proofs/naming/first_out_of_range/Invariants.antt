use Rattle.std.proofs.Common.{◌≡◌, drop, None}
use Rattle.chp_syntax.specs.declared.tree.Decl.{Decl}
use Rattle.width_check.specs.Walk.{first_of, is_out_of_range}
use Rattle.width_check.proofs.naming.first_out_of_range.Given as goal

abbrev pub invariant-loop-decl : goal.invariant-loop-decl
invariant-loop-decl l = first_of is_out_of_range (λ (d : Decl). d.width_at) l.first (drop l.decl-index l.decls) ≡
    first_of is_out_of_range (λ (d : Decl). d.width_at) None l.decls
