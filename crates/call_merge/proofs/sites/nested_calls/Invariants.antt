use Rattle.std.proofs.Common.{◌≡◌, map, take}
use Rattle.chp_syntax.specs.View.{procedure_of}
use Rattle.call_merge.specs.CallSites.{nested_calls}
use Rattle.call_merge.proofs.sites.nested_calls.Given as goal

abbrev pub invariant-loop-procedure : goal.invariant-loop-procedure
invariant-loop-procedure l = l.found.items ≡ nested_calls (map procedure_of (take l.procedure-index l.procs))
