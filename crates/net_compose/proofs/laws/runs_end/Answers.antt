use Rattle.net_compose.proofs.RunsEnd.{translation_progresses, plain_translation_progresses}
use Rattle.net_compose.proofs.laws.runs_end.Goals as goal

pub returns-clause-every : goal.returns-clause-every
returns-clause-every c = λ p is.
    translation_progresses c.steps_taken.ensures c.runs_append.ensures c.one_history.ensures c.rounds_hold.ensures c.one_end.ensures c.halves_are_plain.ensures
    c.circuits_carry.ensures p is (c.carries.ensures p is) c.halves_keep_pace.ensures

pub returns-clause-plain : goal.returns-clause-plain
returns-clause-plain c = λ p is.
    plain_translation_progresses c.steps_taken.ensures c.runs_append.ensures c.one_history.ensures c.rounds_hold.ensures c.one_end.ensures
    c.halves_are_plain.ensures c.circuits_carry.ensures p is (c.carries.ensures p is)
