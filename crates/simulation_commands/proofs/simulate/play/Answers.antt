use Rattle.std.proofs.Common.{◌∙◌}
use Rattle.simulation_commands.specs.Asked.{simulated_enabled}
use Rattle.simulation_commands.proofs.Asking.{asked_through}
use Rattle.simulation_commands.proofs.Keeping.{log_after, log_same}
use Rattle.simulation_commands.proofs.Reporting.{run_led, run_played}
use Rattle.simulation_commands.proofs.simulate.play.Goals as goal

pub returns-clause-played : goal.returns-clause-played
returns-clause-played g c =
    let e = c.run.ensures in
    run_played c.args.sim c.args.seed _ _ _ _ _ _ _ _ (e.seeded ∙ c.prepare.ensures.seeded) c.prepare.ensures.log e.log e.picks e.ends

pub returns-clause-led : goal.returns-clause-led
returns-clause-led g c =
    let e = c.run.ensures in
    run_led c.args.sim _ _ _ c.run.result c.prepare.ensures.log e.net e.moves e.done e.passed

pub returns-clause-asked : goal.returns-clause-asked
returns-clause-asked g c =
    let ready = c.prepare.ensures in
    asked_through _ (simulated_enabled c.args.sim) c.args.seed _ _ _ ready.kind ready.seeded ready.log c.run.ensures.asked

pub returns-clause-grown : goal.returns-clause-grown
returns-clause-grown g c = log_after _ _ _ c.prepare.ensures.log c.run.ensures.log

pub returns-in_err-prepare-clause-grown : goal.returns-in_err-prepare-clause-grown
returns-in_err-prepare-clause-grown g c = log_same _ _ c.prepare.ensures.log
