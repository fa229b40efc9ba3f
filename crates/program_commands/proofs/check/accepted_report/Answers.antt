use Rattle.std.proofs.Common.{ap}
use Rattle.command_answers.specs.declared.answer.Ending.TheVariants.{Done}
use Rattle.command_answers.specs.Answers.{writes}
use Rattle.command_steps.specs.Steps.{accepted}
use Rattle.program_commands.proofs.check.accepted_report.Goals as goal

pub returns : goal.returns
returns c =
    let checked = c.requires.checked in
    accepted checked.means checked.accepted
    (record { nodes = c.in_ok-nodes.nodes; counted = c.in_ok-nodes.ensures checked; told = ap (λ text. writes Done text) c.in_ok-text.ensures })
