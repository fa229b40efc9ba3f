use Rattle.std.proofs.Common.{◌≡◌, ◌++◌, take}
use Rattle.history_report.specs.Reports.{value_words}
use Rattle.history_report.proofs.rounds.words_of.Given as goal

abbrev pub invariant-loop-value : goal.invariant-loop-value
invariant-loop-value l = l.to.items ≡ l.initial.to.items ++ value_words (take l.value-index l.values)
