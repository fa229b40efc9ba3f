use Rattle.std.proofs.Common.{◌≡◌, drop, None}
use Rattle.std.specs.HashSet.{contains}
use Rattle.std.specs.Prelude.{not}
use Rattle.std.specs.Str.{bytes_eq}
use Rattle.chp_syntax.specs.declared.tree.Proc.{Proc}
use Rattle.width_check.specs.Walk.{first_of}
use Rattle.call_merge.proofs.causes.first_unused.Given as goal

abbrev pub invariant-loop-procedure : goal.invariant-loop-procedure
invariant-loop-procedure l =
    first_of (λ (q : Proc). not (contains bytes_eq l.called q.name.name)) (λ (q : Proc). q.name.at) l.first (drop l.procedure-index l.procs) ≡
    first_of (λ (q : Proc). not (contains bytes_eq l.called q.name.name)) (λ (q : Proc). q.name.at) None l.procs
