use Rattle.delay_script.proofs.OneTimed.{moves_once, ran_once, time_once}
use Rattle.delay_script.proofs.laws.one_timed_run.Goals as goal

pub returns-clause-moves : goal.returns-clause-moves
returns-clause-moves c = moves_once

pub returns-clause-ran : goal.returns-clause-ran
returns-clause-ran c = ran_once

pub returns-clause-time : goal.returns-clause-time
returns-clause-time c = time_once
