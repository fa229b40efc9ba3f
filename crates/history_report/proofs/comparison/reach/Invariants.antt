use Rattle.std.proofs.Common.{◌≡◌, ◌-◌, ◌≤◌}
use Rattle.chp_meaning.specs.Rounds.{rounds_from}
use Rattle.chp_meaning.specs.Ends.{seen, IsOf}
use Rattle.history_report.proofs.comparison.reach.Given as goal

abbrev pub invariant-loop-left : goal.invariant-loop-left
invariant-loop-left l = record {
  of : IsOf l.program l.config;
  fewer : l.left ≤ l.initial.left;
  made : seen l.program l.config ≡ rounds_from (seen l.program l.initial.config) (l.initial.left - l.left);
}

abbrev pub decreases-loop-left : goal.decreases-loop-left
decreases-loop-left l = l.left
