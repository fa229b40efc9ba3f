use Rattle.chp_cli.proofs.TimedCarried.{timed_done}
use Rattle.chp_cli.proofs.laws.timed_runs_agree.Goals as goal

pub returns : goal.returns
returns c = λ t given p told holds refers.
    timed_done c.power_is_powered.ensures c.safe_moves_bring_no_hazard.ensures t given p holds c.rounds_hold.ensures c.passed_are_histories.ensures
    c.one_comparison.ensures told refers
