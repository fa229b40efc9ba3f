use Rattle.std.proofs.lemmas.Result.{IfErr-weaker, on_ok_weaker}
use Rattle.std.specs.HashSet.{contains}
use Rattle.std.specs.Str.{bytes_eq}
use Rattle.chp_base.specs.declared.fault.FaultCode.TheVariants as code
use Rattle.chp_syntax.specs.View.{program_tree}
use Rattle.width_check.proofs.Least.{IsLeast}
use Rattle.call_merge.specs.CallEnds.{IfRefusedCall, IsRefusedFor, IsNoCount}
use Rattle.call_merge.specs.CallFaults.{IsUnusedProcedure}
use Rattle.call_merge.proofs.FirstCalls.{IsRefusedAt, unused_least, nowhere, refused_for, refused_alone}
use Rattle.call_merge.proofs.causes.refuse_unused.Goals as goal
use Rattle.call_merge.proofs.causes.refuse_unused.Goals.{After-drop-called}

least : (c : After-drop-called) → IsLeast (λ s. IsUnusedProcedure (program_tree c.args.program.now) s) c.first_unused.result
least c = unused_least c.args.program.now c.deref.result.now (λ n. contains bytes_eq c.in_ok-called.called n) c.first_unused.result c.deref.ensures.value
    c.in_ok-called.ensures c.first_unused.ensures

pub returns-clause-none : goal.returns-clause-none
returns-clause-none c = on_ok_weaker c.refuse.result (λ none. nowhere (λ s. IsUnusedProcedure (program_tree c.args.program.now) s) c.first_unused.result
    (least c) none) c.refuse.ensures.none

pub returns-clause-first : goal.returns-clause-first
returns-clause-first c = IfErr-weaker c.refuse.result (IsRefusedAt code.UnusedProcedure c.first_unused.result)
    (IfRefusedCall (IsRefusedFor (program_tree c.args.program.now) code.UnusedProcedure))
    (λ e h. refused_for (program_tree c.args.program.now) code.UnusedProcedure c.first_unused.result e (least c) h) c.refuse.ensures.some

pub returns-clause-fault : goal.returns-clause-fault
returns-clause-fault c = IfErr-weaker c.refuse.result (IsRefusedAt code.UnusedProcedure c.first_unused.result) IsNoCount
    (λ e h. refused_alone code.UnusedProcedure c.first_unused.result e h) c.refuse.ensures.some
