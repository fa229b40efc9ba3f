use Rattle.std.proofs.Common.{◌≡◌, take}
use Rattle.chp_meaning.specs.Standing.{items_of}
use Rattle.event_sim.specs.Passing.{channel_histories}
use Rattle.history_report.proofs.report.histories_of.Given as goal

abbrev pub invariant-loop-chan : goal.invariant-loop-chan
invariant-loop-chan l = items_of l.histories.items ≡ channel_histories l.channels (take l.chan-index l.passed)
