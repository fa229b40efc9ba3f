use Rattle.std.proofs.Common.{◌-◌, length}
use Rattle.event_sim.specs.Ages.{AreEqualFrom}
use Rattle.event_sim.proofs.ages.group_run.Given as goal

abbrev pub invariant-loop-run : goal.invariant-loop-run
invariant-loop-run l = AreEqualFrom l.was l.left l.list l.done l.run

abbrev pub decreases-loop-run : goal.decreases-loop-run
decreases-loop-run l = length l.was - l.left - l.run
