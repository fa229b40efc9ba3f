use Rattle.std.proofs.Common.{◌≡◌, ◌++◌, drop}
use Rattle.chp_meaning.specs.Standing.{items_of}
use Rattle.history_report.specs.RoundsReports.{passed_lines}
use Rattle.history_report.proofs.rounds.passed_lines.Given as goal

abbrev pub invariant-loop-chan : goal.invariant-loop-chan
invariant-loop-chan l = l.to.items ++ passed_lines (drop l.chan l.channels) (items_of (drop l.chan l.histories))
    ≡ l.initial.to.items ++ passed_lines l.channels (items_of l.histories)
