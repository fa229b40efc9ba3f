use Rattle.call_compose.proofs.FormsAlike.{calls_alike}
use Rattle.call_compose.proofs.calls_typed.Goals as goal

pub returns : goal.returns
returns c = calls_alike
