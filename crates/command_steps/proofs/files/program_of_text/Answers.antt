use Rattle.std.proofs.Common.{arith}
use Rattle.std.proofs.lemmas.List.{length-map}
use Rattle.chp_syntax.specs.View.{procedure_of, program_tree}
use Rattle.command_steps.specs.Steps.{no_program}
use Rattle.command_steps.proofs.files.program_of_text.Goals as goal

pub returns-in-Err-Refused-clause-stopped : goal.returns-in-Err-Refused-clause-stopped
returns-in-Err-Refused-clause-stopped c =
    let never = rw c.in-Err-Refused.field-0-is at c.in-Err-Refused.ensures.refused in
    let cause = rw c.in-Err-Refused.field-0-is at c.in-Err-Refused.ensures.place in
    let other = rw c.in-Err-Refused.field-0-is at c.in-Err-Refused.ensures.other in
    let law = c.one_fault.ensures in
    no_program (rw c.in-Err-Refused.fault-is
    (record { never = never; cause = cause; other = other; only = λ code at is. (law.cause _ code _ at _ is cause, law.place _ code _ at _ is cause) }))

pub returns-in-Ok-clause-few : goal.returns-in-Ok-clause-few
returns-in-Ok-clause-few c =
    let program = c.in-Ok.program in
    let few = c.few_declared.ensures c.args.text.now (program_tree program) c.in-Ok.ensures.reads in
    omega (arith, few, c.requires, length-map program.procs.items procedure_of)
