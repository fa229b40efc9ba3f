use Rattle.chp_syntax.specs.View.{program_tree}
use Rattle.command_steps.specs.Steps.{FromProgram, a_program}
use Rattle.command_steps.proofs.BufferStopping.{OnlyBuffer, program_halts}
use Rattle.command_steps.proofs.Stopping.{err_in, halts_in, passed_on}
use Rattle.command_words.proofs.Results.{ok_in}
use Rattle.command_steps.proofs.buffered.buffered_of_text.Goals as goal

pub returns-in_err-program-clause-stopped : goal.returns-in_err-program-clause-stopped
returns-in_err-program-clause-stopped c =
    passed_on c.from_residual.result _ _ c.from_residual.ensures.1
    (program_halts c.args.text.now _ c.in_err-program.field-0.0 c.in_err-program.ensures.stopped)

pub returns-clause-read : goal.returns-clause-read
returns-clause-read c =
    ok_in c.buffered_program-made.result _ _ (λ made is. record {
      tree = program_tree c.in_ok-program.program;
      read = c.in_ok-program.ensures.read;
      from = is;
    }) c.buffered_program-made.ensures.made

pub returns-clause-stopped : goal.returns-clause-stopped
returns-clause-stopped c =
    err_in c.buffered_program-made.result _ _
    (λ stop halts. halts_in _ (FromProgram c.args.text.now (OnlyBuffer _)) (λ answer is. a_program c.in_ok-program.ensures.read is) stop halts)
    c.buffered_program-made.ensures.stopped
