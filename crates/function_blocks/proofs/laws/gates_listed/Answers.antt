use Rattle.function_blocks.proofs.GatesTold.{listed}
use Rattle.function_blocks.proofs.laws.gates_listed.Goals as goal

pub returns : goal.returns
returns c = listed
