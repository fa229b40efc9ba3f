use Rattle.handshake_expand.proofs.Ranges.{root_nested}
use Rattle.handshake_expand.proofs.laws.parts_nest.Goals as goal

pub returns : goal.returns
returns c = root_nested
