use Rattle.chp_cli.proofs.Benched.{benched_ends}
use Rattle.chp_cli.proofs.CalmRuns.{carried_ends}
use Rattle.chp_cli.proofs.TimedCarried.{timed_ends}
use Rattle.chp_cli.proofs.TracedCarried.{traced_ends}
use Rattle.chp_cli.proofs.laws.carried_runs_have_one_length.Goals as goal

pub returns : goal.returns
returns c =
    let powered = c.power_is_powered.ensures in
    let law = c.safe_moves_bring_no_hazard.ensures in
    record { simulated = carried_ends powered law; timed = timed_ends powered law; traced = traced_ends powered law; benched = benched_ends powered }
