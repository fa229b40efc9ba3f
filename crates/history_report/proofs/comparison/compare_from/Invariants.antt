use Rattle.std.proofs.Common.{◌≡◌, ◌-◌, ◌<◌, ◌≤◌, ℕ}
use Rattle.env_script.specs.Runs.{history_at}
use Rattle.chp_meaning.specs.Rounds.{rounds_from}
use Rattle.chp_meaning.specs.Ends.{seen, IsOf}
use Rattle.chp_meaning.specs.Prefixes.{IsPrefixOf}
use Rattle.history_report.specs.Comparing.{run_history}
use Rattle.history_report.proofs.comparison.compare_from.Given as goal

abbrev pub invariant-loop-chan : goal.invariant-loop-chan
invariant-loop-chan l = record {
  of : IsOf l.program l.config;
  fewer : l.left ≤ l.initial.left;
  made : seen l.program l.config ≡ rounds_from (seen l.program l.initial.config) (l.initial.left - l.left);
  behind : (earlier : ℕ) → earlier < l.chan
      → IsPrefixOf (run_history l.ran earlier) (history_at (rounds_from (seen l.program l.initial.config) l.initial.left).histories earlier);
}
