use Rattle.std.proofs.Common.{◌<◌, length, sym, subst}
use Rattle.std.specs.Prelude.{All}
use Rattle.delay_script.specs.declared.noted.NotedMove.{NotedMove}
use Rattle.delay_script.specs.DelayTables.{DelayTable}
use Rattle.delay_script.specs.TimedRuns.{TimedValue, IsTimedRan}
use Rattle.event_sim.specs.Following.{power_of}
use Rattle.prs_core.specs.Nets.{NetValue}
use Rattle.wave_file.specs.CauseChains.{AreCaused, values_given}
use Rattle.wave_file.specs.RunWaves.{wave_of_run}
use Rattle.wave_file.specs.Waves.{IsKeptWave, IsWave}
use Rattle.command_words.specs.CommandWords.{waves_asked}
use Rattle.simulation_commands.specs.Tracing.{trace_for}
use Rattle.simulation_commands.proofs.waves.trace.Goals as goal

pub trace_text-requires-clause-wave : goal.trace_text-requires-clause-wave
trace_text-requires-clause-wave c =
    let ran = c.run-ran.result in
    let is = subst (λ (t : TimedValue). IsTimedRan t ran.moves.items ran.timed.ran ran.timed.time) c.in_ok-new.ensures c.run-ran.ensures.ran in
    let t = trace_for (waves_asked c.args.asked.now) c.args.net c.args.script c.args.delays in
    subst (λ (n : NetValue). IsWave (wave_of_run n t.high ran.moves.items)) (sym is.net)
    (c.timed_runs_are_waves.ensures.wave t ran.moves.items ran.timed.ran ran.timed.time c.requires.net is)

pub trace_text-requires-clause-kept : goal.trace_text-requires-clause-kept
trace_text-requires-clause-kept c =
    let ran = c.run-ran.result in
    let is = subst (λ (t : TimedValue). IsTimedRan t ran.moves.items ran.timed.ran ran.timed.time) c.in_ok-new.ensures c.run-ran.ensures.ran in
    let t = trace_for (waves_asked c.args.asked.now) c.args.net c.args.script c.args.delays in
    subst (λ (n : NetValue). IsKeptWave (wave_of_run n t.high ran.moves.items)) (sym is.net)
    (c.timed_runs_are_waves.ensures.kept t ran.moves.items ran.timed.ran ran.timed.time c.requires.net c.requires.delays c.requires.steps is)

pub trace_text-requires-clause-nodes : goal.trace_text-requires-clause-nodes
trace_text-requires-clause-nodes c =
    let ran = c.run-ran.result in
    let is = subst (λ (t : TimedValue). IsTimedRan t ran.moves.items ran.timed.ran ran.timed.time) c.in_ok-new.ensures c.run-ran.ensures.ran in
    let t = trace_for (waves_asked c.args.asked.now) c.args.net c.args.script c.args.delays in
    subst (λ (n : NetValue). All (λ (m : NotedMove). m.node < length n.first) ran.moves.items) (sym is.net)
    (c.timed_runs_are_waves.ensures.nodes t ran.moves.items ran.timed.ran ran.timed.time c.requires.net is)

pub trace_text-requires-clause-caused : goal.trace_text-requires-clause-caused
trace_text-requires-clause-caused c =
    let ran = c.run-ran.result in
    let is = subst (λ (t : TimedValue). IsTimedRan t ran.moves.items ran.timed.ran ran.timed.time) c.in_ok-new.ensures c.run-ran.ensures.ran in
    let t = trace_for (waves_asked c.args.asked.now) c.args.net c.args.script c.args.delays in
    let law = c.timed_runs_are_waves.ensures.caused t ran.moves.items ran.timed.ran ran.timed.time is in
    subst (λ (n : NetValue). AreCaused c.in_ok-kept.kept (values_given (power_of n t.high) ran.moves.items) ran.moves.items) (sym is.net)
    (subst (λ (d : DelayTable). AreCaused d (values_given (power_of c.args.net t.high) ran.moves.items) ran.moves.items) (sym c.in_ok-kept.ensures) law)
