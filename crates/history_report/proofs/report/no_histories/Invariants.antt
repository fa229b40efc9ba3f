use Rattle.std.proofs.Common.{◌≡◌, [], replicate}
use Rattle.chp_meaning.specs.Standing.{items_of}
use Rattle.history_report.proofs.report.no_histories.Given as goal

abbrev pub invariant-loop-made : goal.invariant-loop-made
invariant-loop-made l = items_of l.histories.items ≡ replicate l._made []
