use Rattle.std.proofs.Common.{◌≡◌, ◌++◌, map, take}
use Rattle.chp_syntax.specs.declared.tree.Decl.{Decl}
use Rattle.chp_syntax.specs.declared.tree.Proc.{Proc}
use Rattle.call_merge.proofs.own_vars.note_declared.Given as goal

abbrev pub invariant-loop-decl : goal.invariant-loop-decl
invariant-loop-decl l = l.names.items ≡ l.initial.names.items ++ map (λ (d : Decl). d.name.name) (take l.decl-index l.decl-items)

abbrev pub invariant-loop-procedure : goal.invariant-loop-procedure
invariant-loop-procedure l = l.names.items ≡ l.initial.names.items ++ map (λ (q : Proc). q.name.name) (take l.procedure-index l.procedure-items)
