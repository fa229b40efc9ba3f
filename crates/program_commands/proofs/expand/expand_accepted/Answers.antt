use Rattle.std.proofs.Common.{ap}
use Rattle.width_check.specs.Typed.{program_of as typed_of}
use Rattle.command_answers.specs.declared.answer.Ending.TheVariants.{Done}
use Rattle.command_answers.specs.Answers.{writes}
use Rattle.program_commands.specs.Expanding.{TreeReport}
use Rattle.command_steps.specs.Steps.{FromNodes, Never, few_enough}
use Rattle.command_steps.proofs.Stopping.{halts_in, nodes_go, passed_on}
use Rattle.program_commands.proofs.expand.expand_accepted.Goals as goal

pub returns-in_err-counted-clause-stopped : goal.returns-in_err-counted-clause-stopped
returns-in_err-counted-clause-stopped c =
    let program = typed_of c.args.program.now in
    passed_on c.from_residual.result _ _ c.from_residual.ensures.1
    (halts_in (FromNodes program Never) (FromNodes program TreeReport) (λ answer is. nodes_go is) c.in_err-counted.field-0.0 c.in_err-counted.ensures.stopped)

pub returns-in-Ok-clause-answered : goal.returns-in-Ok-clause-answered
returns-in-Ok-clause-answered c = few_enough c.in_ok-counted.ensures.few (ap (λ text. writes Done text) c.in-Ok.ensures)
