use Rattle.chp_cli.proofs.AgreeingRuns.{carried_done}
use Rattle.chp_cli.proofs.CalmRuns.{carried_calm}
use Rattle.chp_cli.proofs.laws.carried_runs_agree.Goals as goal

pub returns : goal.returns
returns c = λ s given played p told holds refers end text f.
    carried_done c.rounds_hold.ensures c.power_is_powered.ensures c.passed_are_histories.ensures c.one_comparison.ensures given told s played p holds refers
    end text f (carried_calm c.power_is_powered.ensures c.safe_moves_bring_no_hazard.ensures s given played p holds _ f)
