use Rattle.net_compose.proofs.HalvedCarried.{translation_carries}
use Rattle.net_compose.proofs.laws.carries.Goals as goal

pub returns : goal.returns
returns c = λ p is. translation_carries c.steps_taken.ensures c.runs_append.ensures c.one_history.ensures c.rounds_hold.ensures c.halves_follow.ensures
    c.halves_are_plain.ensures c.circuits_carry.ensures p is.typed is.sharing
