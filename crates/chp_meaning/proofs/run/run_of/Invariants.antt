use Rattle.std.proofs.Common.{◌≡◌, ◌≤◌}
use Rattle.width_check.specs.View.{process_of}
use Rattle.chp_meaning.specs.Fitting.{Fits}
use Rattle.chp_meaning.specs.Rounds.{rounds_from}
use Rattle.chp_meaning.specs.AtOnce.{held_values}
use Rattle.chp_meaning.specs.Standing.{IsStanding, configuration_of, histories_of}
use Rattle.chp_meaning.proofs.run.run_of.Given as goal

abbrev pub invariant-loop-made : goal.invariant-loop-made
invariant-loop-made l = record {
  standing : IsStanding (process_of l.body) l.config;
  so_far : Fits (configuration_of (process_of l.body) l.fn.config).term →
      configuration_of (process_of l.body) l.config ≡ rounds_from (configuration_of (process_of l.body) l.fn.config) l._made;
  count : l.count ≡ held_values (histories_of l.config);
  most : l.count ≤ l.most;
}
