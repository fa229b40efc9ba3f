use Rattle.command_steps.proofs.MeantShapes.{meant_shaped}
use Rattle.command_steps.proofs.laws.meant_programs_are_shaped.Goals as goal

pub returns : goal.returns
returns c = meant_shaped
