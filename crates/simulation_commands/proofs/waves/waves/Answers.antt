use Rattle.std.proofs.Common.{arith}
use Rattle.command_words.specs.CommandWords.{waves_asked}
use Rattle.command_steps.proofs.Stopping.{passed_on}
use Rattle.simulation_commands.proofs.TraceStopping.{traced_net_stops, traced_script_stops, traced_delays_stop, trace_answers}
use Rattle.simulation_commands.proofs.waves.waves.Goals as goal

pub returns-in_err-net-clause-stopped : goal.returns-in_err-net-clause-stopped
returns-in_err-net-clause-stopped g c =
    passed_on c.from_residual.result _ _ c.from_residual.ensures.1
    (traced_net_stops (waves_asked c.args.asked.now) _ _ _ c.in_err-net.field-0.0 c.in_err-net.ensures.stopped)

pub returns-in_err-script-clause-stopped : goal.returns-in_err-script-clause-stopped
returns-in_err-script-clause-stopped g c =
    passed_on c.from_residual-in_err-script.result _ _ c.from_residual-in_err-script.ensures.1
    (traced_script_stops (waves_asked c.args.asked.now) _ c.in_ok-net.net c.in_ok-net.ensures.read _ _ _
    c.net_in.ensures.faults c.in_err-script.field-0.0 (rw (c.net_in.ensures.same, c.net_in.ensures.kept) at c.in_err-script.ensures.stopped))

pub returns-in_err-delays-clause-stopped : goal.returns-in_err-delays-clause-stopped
returns-in_err-delays-clause-stopped g c =
    let told = rw (c.net_in.ensures.same, c.net_in.ensures.kept) at c.in_ok-script.ensures.read in
    passed_on c.from_residual-in_err-delays.result _ _ c.from_residual-in_err-delays.ensures.1
    (traced_delays_stop (waves_asked c.args.asked.now) _ c.in_ok-net.net c.in_ok-net.ensures.read c.in_ok-script.script told _ _ _
    (omega (arith, c.net_in.ensures.faults, c.net_script_in.ensures.faults)) c.in_err-delays.field-0.0
    (rw (c.net_script_in.ensures.same, c.net_script_in.ensures.kept, c.net_in.ensures.same, c.net_in.ensures.kept) at c.in_err-delays.ensures.stopped))

pub returns-in-Ok-clause-answered : goal.returns-in-Ok-clause-answered
returns-in-Ok-clause-answered g c =
    let told = rw (c.net_in.ensures.same, c.net_in.ensures.kept) at c.in_ok-script.ensures.read in
    let said = rw (c.net_script_in.ensures.same, c.net_script_in.ensures.kept, c.net_in.ensures.same, c.net_in.ensures.kept) at c.in_ok-delays.ensures.read in
    trace_answers (waves_asked c.args.asked.now) _ c.in_ok-net.net c.in_ok-net.ensures.read c.in_ok-script.script told c.in_ok-delays.delays said _
    c.in-Ok.ensures

pub trace-requires-clause-net : goal.trace-requires-clause-net
trace-requires-clause-net g c = c.in_ok-net.ensures.read.is.kept
