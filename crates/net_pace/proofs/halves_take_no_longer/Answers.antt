use Rattle.net_rounds.proofs.TranslationPace.{halves_no_longer}
use Rattle.net_pace.proofs.halves_take_no_longer.Goals as goal

pub returns : goal.returns
returns c = halves_no_longer c.halves_are_plain.ensures
