use Rattle.std.proofs.Common.{◌≡◌, map, take}
use Rattle.chp_syntax.specs.View.{procedure_of}
use Rattle.call_merge.specs.CallSites.{call_channel}
use Rattle.call_merge.proofs.channels.call_channels.Given as goal

abbrev pub invariant-loop-procedure : goal.invariant-loop-procedure
invariant-loop-procedure l = l.made.items ≡ map call_channel (map procedure_of (take l.procedure-index l.procs))
