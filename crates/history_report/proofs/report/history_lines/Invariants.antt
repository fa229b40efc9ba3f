use Rattle.std.proofs.Common.{◌≡◌, ◌++◌, drop}
use Rattle.history_report.specs.Reports.{history_lines}
use Rattle.history_report.proofs.report.history_lines.Given as goal

abbrev pub invariant-loop-chan : goal.invariant-loop-chan
invariant-loop-chan l = l.to.items ++ history_lines l.passed l.chan (drop l.chan l.channels) ≡ l.initial.to.items ++ history_lines l.passed 0 l.channels
