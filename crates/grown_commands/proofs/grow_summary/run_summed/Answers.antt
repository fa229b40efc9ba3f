use Rattle.command_words.proofs.Results.{ok_in}
use Rattle.simulation_commands.proofs.Asking.{asked_as}
use Rattle.simulation_commands.proofs.Keeping.{still_at}
use Rattle.grown_commands.proofs.grow_summary.run_summed.Goals as goal

pub returns-in_err-sim-clause-played : goal.returns-in_err-sim-clause-played
returns-in_err-sim-clause-played g c = still_at _ _

pub returns-clause-led : goal.returns-clause-led
returns-clause-led g c = rw c.in_ok-sim.ensures at c.play_at.ensures.led

pub returns-clause-asked : goal.returns-clause-asked
returns-clause-asked g c =
    ok_in c.play_at.result _ _ (λ ran asked. asked_as _ _ _ _ _ c.in_ok-sim.sim _ c.in_ok-sim.ensures asked) c.play_at.ensures.asked
