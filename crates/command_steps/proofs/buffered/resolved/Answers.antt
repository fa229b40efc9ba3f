use Rattle.chp_syntax.specs.View.{program_tree}
use Rattle.width_check.specs.Typed.{program_of as typed_of}
use Rattle.command_steps.proofs.Buffering.{meets_still}
use Rattle.command_steps.proofs.buffered.resolved.Goals as goal

pub unreachable-requires : goal.unreachable-requires
unreachable-requires c =
    let place = rw c.in-Err-Refused.field-0-is at c.in-Err-Refused.ensures.place in
    c.one_fault.ensures.none (program_tree c.args.program.now) _ _ c.requires.accepted.named place

pub unreachable-requires-in-Err-Refused-share : goal.unreachable-requires-in-Err-Refused-share
unreachable-requires-in-Err-Refused-share c =
    let not = rw c.in-Err-Refused-share.field-0-is at c.in-Err-Refused-share.ensures.refused in
    not (meets_still (program_tree c.args.program.now) (typed_of c.in-Ok.typed) c.in-Ok.ensures.form c.requires.accepted)
