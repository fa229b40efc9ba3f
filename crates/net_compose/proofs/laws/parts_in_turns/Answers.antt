use Rattle.net_compose.proofs.PartAllRuns.{all_parts}
use Rattle.net_compose.proofs.laws.parts_in_turns.Goals as goal

pub returns : goal.returns
returns c = all_parts c.halves_are_plain.ensures c.parts_take_turns.ensures
