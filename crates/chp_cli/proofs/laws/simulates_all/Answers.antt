use Rattle.command_steps.proofs.OneAnswers.{no_fault}
use Rattle.chp_cli.proofs.RunsWritten.{simulate_writes}
use Rattle.chp_cli.proofs.laws.simulates_all.Goals as goal

pub returns : goal.returns
returns c =
    let names = c.one_fault.ensures in
    let sharing = c.one_shared_fault.ensures in
    simulate_writes (no_fault names.cause names.place names.none sharing.cause sharing.first sharing.second sharing.none)
