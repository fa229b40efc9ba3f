use Rattle.wave_file.proofs.KeptWaves.{is_kept}
use Rattle.wave_file.proofs.TimedWaves.{is_wave, are_nodes, are_caused}
use Rattle.wave_file.proofs.laws.timed_runs_are_waves.Goals as goal

pub returns-clause-wave : goal.returns-clause-wave
returns-clause-wave c = is_wave

pub returns-clause-nodes : goal.returns-clause-nodes
returns-clause-nodes c = are_nodes

pub returns-clause-caused : goal.returns-clause-caused
returns-clause-caused c = are_caused

pub returns-clause-kept : goal.returns-clause-kept
returns-clause-kept c = is_kept
