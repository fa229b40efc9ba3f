use Rattle.chp_cli.proofs.RoundsFollowed.{simulated_follow, timed_follow, traced_follow}
use Rattle.chp_cli.proofs.laws.compiled_runs_follow.Goals as goal

pub returns-clause-simulated : goal.returns-clause-simulated
returns-clause-simulated c = simulated_follow c.power_is_powered.ensures c.rounds_hold.ensures c.compiled_files_carry.ensures

pub returns-clause-timed : goal.returns-clause-timed
returns-clause-timed c = timed_follow c.power_is_powered.ensures c.rounds_hold.ensures c.compiled_files_carry.ensures

pub returns-clause-traced : goal.returns-clause-traced
returns-clause-traced c = traced_follow c.power_is_powered.ensures c.rounds_hold.ensures c.compiled_files_carry.ensures
