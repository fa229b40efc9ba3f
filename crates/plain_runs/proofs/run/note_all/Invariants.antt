use Rattle.std.proofs.Common.{◌≡◌, ◌++◌, length, take, drop}
use Rattle.prs_core.specs.Moves.{high}
use Rattle.env_script.specs.Runs.{with_values}
use Rattle.plain_runs.proofs.run.note_all.Given as goal

abbrev pub invariant-loop-chan : goal.invariant-loop-chan
invariant-loop-chan l = record {
  each : length l.histories.items ≡ length l.channels;
  noted : take l.chan l.histories.items ++ with_values (high l.state) l.node (drop l.chan l.channels) (drop l.chan l.histories.items) ≡
      with_values (high l.state) l.node l.channels l.initial.histories.items;
}
