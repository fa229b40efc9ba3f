use Rattle.std.proofs.Common.{◌≡◌, map, take}
use Rattle.chp_syntax.specs.declared.tree.Proc.{Proc}
use Rattle.call_compose.proofs.bodies.procedure_names.Given as goal

abbrev pub invariant-loop-procedure : goal.invariant-loop-procedure
invariant-loop-procedure l = l.names ≡ map (λ (q : Proc). q.name.name) (take l.procedure-index l.procedure-items)
