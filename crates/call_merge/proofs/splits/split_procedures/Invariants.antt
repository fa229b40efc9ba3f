use Rattle.std.proofs.Common.{◌≡◌, ◌+◌, ◌++◌, drop, length, map}
use Rattle.chp_syntax.specs.View.{procedure_of}
use Rattle.call_merge.specs.Bodies.{procedures_of}
use Rattle.call_merge.specs.CallSplits.{split_procedures, own_names}
use Rattle.call_merge.proofs.SplitSteps.{readers_of}
use Rattle.call_merge.proofs.splits.split_procedures.Given as goal

abbrev pub invariant-loop-procedure : goal.invariant-loop-procedure
invariant-loop-procedure l = record {
  made : procedures_of l.made.items ++ split_procedures l.decls (own_names l.vars) l.place (map procedure_of (drop l.procedure-index l.procedure-items))
      ≡ split_procedures l.decls (own_names l.vars) 0 (map procedure_of l.procedure-items);
  place : l.place + length (readers_of l.decls (map procedure_of (drop l.procedure-index l.procedure-items)))
      ≡ length (readers_of l.decls (map procedure_of l.procedure-items));
}
