use Rattle.std.proofs.Common.{◌≡◌, ◌++◌, map, take}
use Rattle.std.specs.List.{flat_map}
use Rattle.chp_syntax.specs.Trees.{Procedure}
use Rattle.chp_syntax.specs.View.{procedure_of}
use Rattle.call_merge.proofs.Mapping.{names_used}
use Rattle.call_merge.proofs.own_vars.note_all_uses.Given as goal

abbrev pub invariant-loop-procedure : goal.invariant-loop-procedure
invariant-loop-procedure l = l.names.items ≡
    l.initial.names.items ++ flat_map (λ (q : Procedure). names_used q.body) (map procedure_of (take l.procedure-index l.procedure-items))
