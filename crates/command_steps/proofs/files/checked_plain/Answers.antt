use Rattle.chp_syntax.specs.View.{program_tree}
use Rattle.width_check.specs.Typed.{program_of as typed_of}
use Rattle.command_steps.specs.Inlined.{as_it_is}
use Rattle.command_steps.specs.Steps.{faulty}
use Rattle.command_steps.proofs.Faulty.{named_fault, shared_fault}
use Rattle.command_steps.proofs.files.checked_plain.Goals as goal

pub returns-in-Err-Refused-clause-stopped : goal.returns-in-Err-Refused-clause-stopped
returns-in-Err-Refused-clause-stopped c =
    let other = rw c.in-Err-Refused.field-0-is at c.in-Err-Refused.ensures.other in
    let place = rw c.in-Err-Refused.field-0-is at c.in-Err-Refused.ensures.place in
    faulty (as_it_is c.requires.call_free) (rw c.in-Err-Refused.fault-is (named_fault (program_tree c.args.program.now) _ other place))

pub returns-in-Err-Refused-share-clause-stopped : goal.returns-in-Err-Refused-share-clause-stopped
returns-in-Err-Refused-share-clause-stopped c =
    let place = rw c.in-Err-Refused-share.field-0-is at c.in-Err-Refused-share.ensures.place in
    faulty (as_it_is c.requires.call_free) (rw c.in-Err-Refused-share.fault-is (shared_fault (program_tree c.args.program.now) (typed_of c.in-Ok.typed) _
    c.in-Ok.ensures.form c.in-Ok.ensures.accepted place))
