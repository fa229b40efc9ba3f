use Rattle.net_pace.proofs.HalfRounds.{two_rounds}
use Rattle.net_pace.proofs.halves_keep_rounds.Goals as goal

pub returns : goal.returns
returns c = two_rounds
