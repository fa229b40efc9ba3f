use Rattle.env_script.proofs.Wires.{one_each}
use Rattle.env_script.proofs.environment.env_enabled.Goals as goal

pub channels_move-requires-clause-script : goal.channels_move-requires-clause-script
channels_move-requires-clause-script c = one_each c.args.net.now c.args.script.now c.requires.script
