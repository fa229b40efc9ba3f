use Rattle.std.proofs.Common.{◌∙◌, sym, arith}
use Rattle.command_words.specs.CommandWords.{run_asked}
use Rattle.command_steps.specs.RunSteps.{no_reset}
use Rattle.simulation_commands.proofs.Asking.{asks_at}
use Rattle.simulation_commands.proofs.Keeping.{still_at}
use Rattle.simulation_commands.proofs.SimulateStopping.{reference_stops, report_answers}
use Rattle.simulation_commands.proofs.SimulateStopping.{file_answers, net_stops, script_stops}
use Rattle.command_steps.proofs.Stopping.{passed_on}
use Rattle.simulation_commands.proofs.simulate.simulate_at.Goals as goal

pub returns-in_err-net-clause-stopped : goal.returns-in_err-net-clause-stopped
returns-in_err-net-clause-stopped g c =
    passed_on c.from_residual.result _ _ c.from_residual.ensures.1
    (net_stops (run_asked c.args.run.now) _ _ _ _ _ c.in_err-net.field-0.0 c.in_err-net.ensures.stopped)

pub returns-in_err-net-clause-played : goal.returns-in_err-net-clause-played
returns-in_err-net-clause-played g c = still_at _ _

pub returns-then-is_powerless-clause-stopped : goal.returns-then-is_powerless-clause-stopped
returns-then-is_powerless-clause-stopped g c =
    file_answers (run_asked c.args.run.now) _ _ _ c.in_ok-net.net c.in_ok-net.ensures.read _ (no_reset (sym c.is_powerless.ensures ∙ c.if-is_powerless.true))

pub returns-then-is_powerless-clause-played : goal.returns-then-is_powerless-clause-played
returns-then-is_powerless-clause-played g c = still_at _ _

pub returns-in_err-script-clause-played : goal.returns-in_err-script-clause-played
returns-in_err-script-clause-played g c = still_at _ _

pub returns-in_err-script-clause-stopped : goal.returns-in_err-script-clause-stopped
returns-in_err-script-clause-stopped g c =
    passed_on c.from_residual-in_err-script.result _ _ c.from_residual-in_err-script.ensures.1
    (script_stops (run_asked c.args.run.now) _ _ _ c.in_ok-net.net c.in_ok-net.ensures.read (sym c.is_powerless.ensures ∙ c.if-is_powerless.false) _ _ _
    c.net_in.ensures.faults c.in_err-script.field-0.0 (rw (c.net_in.ensures.same, c.net_in.ensures.kept) at c.in_err-script.ensures.stopped))

pub returns-in_err-program-clause-played : goal.returns-in_err-program-clause-played
returns-in_err-program-clause-played g c = still_at _ _

pub returns-in_err-program-clause-stopped : goal.returns-in_err-program-clause-stopped
returns-in_err-program-clause-stopped g c =
    passed_on c.from_residual-in_err-program.result _ _ c.from_residual-in_err-program.ensures.1
    (reference_stops (run_asked c.args.run.now) _ _ _ c.in_ok-net.net c.in_ok-net.ensures.read (sym c.is_powerless.ensures ∙ c.if-is_powerless.false)
    c.in_ok-script.script (rw (c.net_in.ensures.same, c.net_in.ensures.kept) at c.in_ok-script.ensures.read) _ _ _
    (omega (arith, c.net_in.ensures.faults, c.net_script_in.ensures.faults)) c.in_err-program.field-0.0
    (rw (c.net_script_in.ensures.same, c.net_script_in.ensures.kept, c.net_in.ensures.same, c.net_in.ensures.kept) at c.in_err-program.ensures.stopped))

pub returns-in-Ok-clause-answered : goal.returns-in-Ok-clause-answered
returns-in-Ok-clause-answered g c =
    report_answers (run_asked c.args.run.now) _ _ _ c.in_ok-net.net c.in_ok-net.ensures.read (sym c.is_powerless.ensures ∙ c.if-is_powerless.false)
    c.in_ok-script.script (rw (c.net_in.ensures.same, c.net_in.ensures.kept) at c.in_ok-script.ensures.read) _
    (rw (c.net_script_in.ensures.same, c.net_script_in.ensures.kept, c.net_in.ensures.same, c.net_in.ensures.kept) at c.in_ok-program.ensures.read) _
    c.in-Ok.ensures.answered

pub returns-in-Ok-clause-asked : goal.returns-in-Ok-clause-asked
returns-in-Ok-clause-asked g c =
    asks_at _ (run_asked c.args.run.now) _ _ c.in_ok-net.net c.in_ok-script.script _ _ c.in_ok-net.ensures.read
    (rw (c.net_in.ensures.same, c.net_in.ensures.kept) at c.in_ok-script.ensures.read) c.in-Ok.ensures.asked
