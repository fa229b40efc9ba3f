use Rattle.chp_syntax.specs.View.{program_tree}
use Rattle.program_commands.specs.Checking.{ChecksProgram}
use Rattle.command_steps.specs.Steps.{FromProgram, Never}
use Rattle.command_steps.proofs.Stopping.{halts_in, passed_on, program_answers, program_goes, program_stops}
use Rattle.program_commands.proofs.check.check_text.Goals as goal

pub returns-clause-answered : goal.returns-clause-answered
returns-clause-answered c =
    program_answers c.args.text.now (program_tree c.in_ok-program.program) ChecksProgram c.in_ok-program.ensures.read c.check_program.result
    c.check_program.ensures.answered

pub returns-clause-stopped : goal.returns-clause-stopped
returns-clause-stopped c =
    program_stops c.args.text.now (program_tree c.in_ok-program.program) ChecksProgram c.in_ok-program.ensures.read c.check_program.result
    c.check_program.ensures.stopped

pub returns-in_err-program-clause-stopped : goal.returns-in_err-program-clause-stopped
returns-in_err-program-clause-stopped c =
    passed_on c.from_residual.result _ _ c.from_residual.ensures.1
    (halts_in (FromProgram c.args.text.now Never) (FromProgram c.args.text.now ChecksProgram) (λ answer is. program_goes is) c.in_err-program.field-0.0
    c.in_err-program.ensures.stopped)
