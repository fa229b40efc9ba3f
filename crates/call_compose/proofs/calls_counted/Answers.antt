use Rattle.call_compose.proofs.SizesAlike.{calls_counted}
use Rattle.call_compose.proofs.calls_counted.Goals as goal

pub returns : goal.returns
returns c = calls_counted
