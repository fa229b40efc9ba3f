use Rattle.std.proofs.Common.{◌≡◌, take}
use Rattle.event_sim.specs.Passing.{values_through}
use Rattle.history_report.proofs.comparison.values_on.Given as goal

abbrev pub invariant-loop-on : goal.invariant-loop-on
invariant-loop-on l = l.values.items ≡ values_through l.chan (take l.on-index l.passed)
