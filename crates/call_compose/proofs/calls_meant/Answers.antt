use Rattle.call_compose.proofs.CallPrograms.{calls_meant}
use Rattle.call_compose.proofs.calls_meant.Goals as goal

pub returns : goal.returns
returns c = calls_meant
