use Rattle.std.proofs.Common.{arith}
use Rattle.command_steps.specs.Inlined.{with_calls}
use Rattle.command_steps.specs.Steps.{bad_calls, too_many_forms}
use Rattle.command_steps.proofs.files.inlined_program.Goals as goal

pub returns-in-Ok-clause-means : goal.returns-in-Ok-clause-means
returns-in-Ok-clause-means c = with_calls c.requires.calls c.in-Ok.ensures.meets c.in-Ok.ensures.inlined c.in-Ok.ensures.few

pub returns-in-Ok-clause-few : goal.returns-in-Ok-clause-few
returns-in-Ok-clause-few c = omega (arith, c.requires.few, c.in-Ok.ensures.decls)

pub returns-in-Err-Refused-clause-stopped : goal.returns-in-Err-Refused-clause-stopped
returns-in-Err-Refused-clause-stopped c =
    let fault = rw c.in-Err-Refused.field-0-is at c.in-Err-Refused.ensures.refused in
    bad_calls c.requires.calls (rw c.in-Err-Refused.fault-is fault)

pub returns-in-Err-TooManyForms-clause-stopped : goal.returns-in-Err-TooManyForms-clause-stopped
returns-in-Err-TooManyForms-clause-stopped c =
    let large = rw c.in-Err-TooManyForms.field-0-is at c.in-Err-TooManyForms.ensures.too_many in
    let meets = rw c.in-Err-TooManyForms.field-0-is at c.in-Err-TooManyForms.ensures.counted in
    too_many_forms c.requires.calls meets (rw c.in-Err-TooManyForms.count-is large)
