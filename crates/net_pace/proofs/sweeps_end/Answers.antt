use Rattle.net_pace.proofs.EndlessSweeps.{sweep_ends}
use Rattle.net_pace.proofs.sweeps_end.Goals as goal

pub returns : goal.returns
returns c = λ net script st nodes whole fair before. sweep_ends nodes net script st fair before whole
