use Rattle.handshake_expand.proofs.Ranges.{answer_within}
use Rattle.handshake_expand.proofs.laws.answers_within.Goals as goal

pub returns : goal.returns
returns c = answer_within
