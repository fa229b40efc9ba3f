use Rattle.command_steps.proofs.OneAnswers.{no_fault}
use Rattle.chp_cli.proofs.EachCommand.{served_written}
use Rattle.chp_cli.proofs.laws.serves_all.Goals as goal

pub returns : goal.returns
returns c =
    let names = c.one_fault.ensures in
    let sharing = c.one_shared_fault.ensures in
    let right = no_fault names.cause names.place names.none sharing.cause sharing.first sharing.second sharing.none in
    λ command given handed told served. served_written right given handed told command served
