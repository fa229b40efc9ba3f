use Rattle.chp_cli.proofs.ServedCompiled.{to_bench, to_simulate, to_time, to_trace}
use Rattle.chp_cli.proofs.laws.compiled_files_are_simulated.Goals as goal

pub returns-clause-simulated : goal.returns-clause-simulated
returns-clause-simulated c = to_simulate c.files_as_promised.ensures

pub returns-clause-timed : goal.returns-clause-timed
returns-clause-timed c = to_time c.files_as_promised.ensures

pub returns-clause-benched : goal.returns-clause-benched
returns-clause-benched c = to_bench c.files_as_promised.ensures

pub returns-clause-traced : goal.returns-clause-traced
returns-clause-traced c = to_trace c.files_as_promised.ensures
