use Rattle.width_check.proofs.Statements.{receive_decided, receive_refused}
use Rattle.width_check.proofs.fitting.is_receive.Goals as goal

pub returns-then-program_receives : goal.returns-then-program_receives
returns-then-program_receives c =
    receive_decided _ _ _ _ _ _ c.in-Some-Some.ensures.lookup.0 c.in-Some-Some.ensures.lookup.1 c.in-Some-Some.ensures'.lookup.0
    c.in-Some-Some.ensures'.lookup.1 (c.program_receives.ensures.0 c.if-program_receives.true)

pub returns-else-program_receives : goal.returns-else-program_receives
returns-else-program_receives c = receive_refused _ _ _ _ _ _ c.in-Some-Some.ensures.lookup.0 c.in-Some-Some.ensures.lookup.1 c.program_receives.ensures
    c.if-program_receives.false
