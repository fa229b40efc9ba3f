use Rattle.chp_syntax.specs.View.{program_tree}
use Rattle.width_check.specs.Typed.{program_of as typed_of}
use Rattle.command_steps.specs.Steps.{FromChecks, Never}
use Rattle.command_steps.proofs.BufferStopping.{OnlyBuffer}
use Rattle.command_steps.proofs.Checked.{buffered_as, checks_for}
use Rattle.command_steps.proofs.Stopping.{checks_go, halts_in, passed_on}
use Rattle.command_steps.proofs.buffered.buffered_program.Goals as goal

pub returns-in_err-plain-clause-stopped : goal.returns-in_err-plain-clause-stopped
returns-in_err-plain-clause-stopped c =
    let tree = program_tree c.args.program.now in
    passed_on c.from_residual.result _ _ c.from_residual.ensures.1
    (halts_in (FromChecks tree Never) (OnlyBuffer _ tree) (λ answer is. checks_go is) c.in_err-plain.field-0.0 c.in_err-plain.ensures.stopped)

pub returns-clause-made : goal.returns-clause-made
returns-clause-made c =
    buffered_as typed_of (program_tree c.args.program.now) (program_tree c.in_ok-plain.plain) c.in_ok-plain.ensures.means c.in_ok-plain.ensures.call_free _
    c.buffered_plain-made.result c.buffered_plain-made.ensures.made

pub returns-clause-stopped : goal.returns-clause-stopped
returns-clause-stopped c =
    checks_for (program_tree c.args.program.now) (program_tree c.in_ok-plain.plain) c.in_ok-plain.ensures.means c.in_ok-plain.ensures.call_free _
    c.buffered_plain-made.result c.buffered_plain-made.ensures.stopped
