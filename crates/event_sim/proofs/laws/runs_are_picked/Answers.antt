use Rattle.event_sim.proofs.Following.{picked_run}
use Rattle.event_sim.proofs.Wholes.{picks_of}
use Rattle.event_sim.proofs.laws.runs_are_picked.Goals as goal

pub returns : goal.returns
returns c = record {
  run = picked_run;
  picks = λ net script st ns is run. picks_of net script is ns st run;
}
