use Rattle.command_steps.specs.RunSteps.{no_script}
use Rattle.command_steps.proofs.run_files.script_of_text.Goals as goal

pub returns-in-Err-Refused-clause-stopped : goal.returns-in-Err-Refused-clause-stopped
returns-in-Err-Refused-clause-stopped c =
    let cause = rw c.in-Err-Refused.field-0-is at c.in-Err-Refused.ensures.refused in
    let first = rw c.in-Err-Refused.field-0-is at c.in-Err-Refused.ensures.first in
    let never = rw c.in-Err-Refused.field-0-is at c.in-Err-Refused.ensures.none in
    rw c.bad_script.ensures (no_script {fault = c.in-Err-Refused.fault} {line = c.in-Err-Refused.line} (rw (c.in-Err-Refused.fault-is, c.in-Err-Refused.line-is)
    (record { never = never; cause = cause; only = first })))
