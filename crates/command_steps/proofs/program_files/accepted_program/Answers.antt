use Rattle.chp_syntax.specs.View.{program_tree}
use Rattle.command_answers.specs.Replies.{Halts}
use Rattle.command_steps.specs.Steps.{FromProgram, Never, a_program}
use Rattle.command_steps.proofs.BufferStopping.{OnlyChecks}
use Rattle.command_steps.proofs.Stopping.{err_in, halts_in, passed_on, program_goes}
use Rattle.command_steps.proofs.program_files.accepted_program.Goals as goal

pub returns-clause-stopped : goal.returns-clause-stopped
returns-clause-stopped c =
    let text = c.args.text.now in
    let tree = program_tree c.in_ok-program.program in
    err_in c.checked_program-checked.result (Halts (OnlyChecks tree)) (Halts (FromProgram text OnlyChecks))
    (halts_in (OnlyChecks tree) (FromProgram text OnlyChecks) (λ answer is. a_program c.in_ok-program.ensures.read is))
    c.checked_program-checked.ensures.stopped

pub returns-in_err-program-clause-stopped : goal.returns-in_err-program-clause-stopped
returns-in_err-program-clause-stopped c =
    let text = c.args.text.now in
    passed_on c.from_residual.result _ _ c.from_residual.ensures.1
    (halts_in (FromProgram text Never) (FromProgram text OnlyChecks) (λ answer is. program_goes is) c.in_err-program.field-0.0 c.in_err-program.ensures.stopped)
