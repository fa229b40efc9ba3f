use Rattle.std.proofs.Common.{◌≡◌, true, drop, None}
use Rattle.chp_syntax.specs.declared.tree.Ident.{Ident}
use Rattle.width_check.specs.Walk.{first_of}
use Rattle.call_merge.proofs.causes.first_place.Given as goal

abbrev pub invariant-loop-name : goal.invariant-loop-name
invariant-loop-name l = first_of (λ (i : Ident). true) (λ (i : Ident). i.at) l.first (drop l.name-index l.names) ≡
    first_of (λ (i : Ident). true) (λ (i : Ident). i.at) None l.names
