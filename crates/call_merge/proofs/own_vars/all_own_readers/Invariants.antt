use Rattle.std.proofs.Common.{◌≡◌, map, take}
use Rattle.chp_syntax.specs.View.{procedure_of}
use Rattle.call_merge.proofs.SplitSteps.{readers_of}
use Rattle.call_merge.proofs.own_vars.all_own_readers.Given as goal

abbrev pub invariant-loop-procedure : goal.invariant-loop-procedure
invariant-loop-procedure l = l.found.items ≡ readers_of l.program.decls.items (map procedure_of (take l.procedure-index l.procedure-items))
