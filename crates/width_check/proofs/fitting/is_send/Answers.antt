use Rattle.width_check.proofs.Statements.{send_decided, send_refused}
use Rattle.width_check.proofs.fitting.is_send.Goals as goal

pub returns-then-program_sends : goal.returns-then-program_sends
returns-then-program_sends c = send_decided _ _ _ _ _ _ c.in-Some.ensures.lookup.0 c.in-Some.ensures.lookup.1
    (c.program_sends.ensures.0 c.if-program_sends.true) c.is_of_width.ensures

pub returns-else-program_sends : goal.returns-else-program_sends
returns-else-program_sends c = send_refused _ _ _ _ _ _ c.in-Some.ensures.lookup.0 c.in-Some.ensures.lookup.1 c.program_sends.ensures c.if-program_sends.false
