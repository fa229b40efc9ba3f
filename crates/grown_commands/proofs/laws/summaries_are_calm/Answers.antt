use Rattle.grown_commands.proofs.CalmSummary.{calm_summary}
use Rattle.grown_commands.proofs.laws.summaries_are_calm.Goals as goal

pub returns : goal.returns
returns c =
    calm_summary c.grown_served.ensures c.form_is_typed.ensures c.whole_nets.ensures c.carries.ensures c.power_is_powered.ensures
    c.safe_moves_bring_no_hazard.ensures
