use Rattle.command_steps.proofs.OneAnswers.{checks_once}
use Rattle.chp_cli.proofs.EachCommand.{command_once}
use Rattle.round_commands.proofs.OneRounds.{rounds_once}
use Rattle.simulation_commands.proofs.OneRuns.{simulate_once}
use Rattle.simulation_commands.proofs.OneTimings.{times_once}
use Rattle.simulation_commands.proofs.OneTraces.{traces_once}
use Rattle.chp_cli.proofs.laws.one_answer.Goals as goal

pub returns : goal.returns
returns c =
    let names = c.one_fault.ensures in
    let sharing = c.one_shared_fault.ensures in
    let checked = checks_once names.cause names.place names.none sharing.cause sharing.first sharing.second sharing.none in
    command_once (simulate_once checked c.one_comparison.ensures)
    (times_once c.one_timed_run.ensures.ran c.one_timed_run.ensures.time c.one_comparison.ensures checked)
    (traces_once c.one_timed_run.ensures.moves c.one_timed_run.ensures.ran c.one_causes_text.ensures) (rounds_once checked) checked
