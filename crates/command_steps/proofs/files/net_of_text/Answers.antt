use Rattle.command_steps.specs.Steps.{no_net}
use Rattle.command_steps.proofs.files.net_of_text.Goals as goal

pub returns-in-Err-Refused-clause-stopped : goal.returns-in-Err-Refused-clause-stopped
returns-in-Err-Refused-clause-stopped c =
    let cause = rw c.in-Err-Refused.field-0-is at c.in-Err-Refused.ensures.refused in
    let never = rw c.in-Err-Refused.field-0-is at c.in-Err-Refused.ensures.never in
    rw c.bad_net.ensures (no_net {fault = c.in-Err-Refused.fault} {line = c.in-Err-Refused.line} (rw (c.in-Err-Refused.fault-is, c.in-Err-Refused.line-is)
    (record { never = never; cause = cause; only = λ other at is. c.one_refusal.ensures.once _ other _ at _ is cause })))
