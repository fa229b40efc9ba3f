-- The wave of a net that carries a program.
use Rattle.std.proofs.Common.{◌≡◌, ◌≢◌, ◌↔◌, ℕ, true, false, Bool, List, length, Option, Some, None, refl}
use Rattle.std.specs.Prelude.{IsSome}
use Rattle.delay_script.specs.DelayTables.{DelayTable, unit_delays}
use Rattle.delay_script.specs.TimedRuns.{moved_nodes, timed_start}
use Rattle.prs_core.specs.Nets.{NetValue, IsNet}
use Rattle.env_script.specs.Scripts.{OfferValue}
use Rattle.env_script.specs.Runs.{RunState, IsApart, IsPowered, IsSafeMove, moved}
use Rattle.env_script.specs.Hazards.{hazard_of}
use Rattle.env_script.proofs.Fronts.{ends_all}
use Rattle.event_sim.specs.Following.{power_of}
use Rattle.width_check.specs.Processes.{TypedProgram}
use Rattle.command_answers.specs.declared.answer.Ending.{Ending}
use Rattle.command_answers.specs.declared.answer.Ending.TheVariants.{Hazard}
use Rattle.command_answers.specs.Answers.{Given, Answer, writes}
use Rattle.command_steps.specs.RunSteps.{a_script}
use Rattle.chp_cli.specs.MadeRuns.{EndsAllAtRest}
use Rattle.chp_cli.specs.Simulated.{HoldsCarrying}
use Rattle.command_steps.specs.Steps.{a_file, a_net}
use Rattle.command_steps.specs.DelaySteps.{delays_read, FromDelayFile, HoldsDelayFile}
use Rattle.chp_cli.specs.TracedFiles.{IsFileTraced, traced_run}
use Rattle.command_words.specs.WavesWords.{AskedWaves}
use Rattle.simulation_commands.specs.Tracing.{TracesNet, Traces, trace_for}
use Rattle.grown_commands.proofs.SafeRuns.{all_safe, run_calm}
use Rattle.chp_cli.proofs.CalmRuns.{at_rest, file_carries}

-- what is written comes from delays that the file says, if one is named
delays_held : (given : Given) (file : Option (List ℕ)) (names : List (List ℕ)) (Next : DelayTable → Answer → Type 0) (end : Ending) (text : List ℕ) →
    FromDelayFile given file names Next (writes end text) → (delays : DelayTable) × HoldsDelayFile given file names delays × Next delays (writes end text)
delays_held given None names Next end text next = (unit_delays (length names), refl, next)
delays_held given (Some file) names Next end text (a_file gives short (delays_read {delays = table} are next)) =
    (table, record { text = _; gives = gives; short = short; is = are }, next)

pub trace_written : (w : AskedWaves) (given : Given) → given.tells ≡ true → (end : Ending) (text : List ℕ) → Traces w given (writes end text) →
    IsFileTraced w given (writes end text)
trace_written w given told end text (a_file {text = x} gives short (a_net {net = n} is (a_file {text = t} reads fits (a_script {script = sc} are next)))) =
    let d = delays_held given w.delays n.names (λ delays. TracesNet (trace_for w n sc delays) w.causes) end text next in record {
      rules = x;
      net = n;
      told = t;
      script = sc;
      delays = d.0;
      held = gives told;
      file = is;
      held_script = reads told;
      told_is = are;
      said_are = d.1;
      traced = d.2;
    }

module _ (powered : (net : NetValue) (high : Bool) → IsNet net → IsSome net.reset → IsPowered net (power_of net high))
    (law : (net : NetValue) (script : List OfferValue) (st : RunState) (n : ℕ) → IsNet net →
    ((IsSafeMove net script st n × IsApart net (moved net st n)) ↔ (hazard_of net script st n ≡ None))) where
  pub trace_no_hazard : (w : AskedWaves) (given : Given) (p : TypedProgram) → HoldsCarrying given w.net p → (end : Ending) (text : List ℕ)
      → IsFileTraced w given (writes end text) → end ≢ Hazard
  trace_no_hazard w given p holds end text f =
      let value = trace_for w f.net f.script f.delays in
      let calm = run_calm powered law f.net f.script (timed_start value) w.steps (moved_nodes f.traced.moves) f.traced.ran.end f.file.kept
      (all_safe powered f.net p f.script false f.file.kept f.told_is.kept (file_carries holds f.held f.file)) f.traced.run.run f.traced.run.ends in
      let same = f.traced.written in
      λ e. cc (calm, same, e)

  pub traced_ends : (w : AskedWaves) (given : Given) (p : TypedProgram) → HoldsCarrying given w.net p → (a : Answer) (f : IsFileTraced w given a)
      → EndsAllAtRest (traced_run w f)
  traced_ends w given p holds a f = λ rest.
      let st = timed_start (trace_for w f.net f.script f.delays) in
      let moves = moved_nodes f.traced.moves in
      ends_all f.net f.script st f.file.kept
      (all_safe powered f.net p f.script false f.file.kept f.told_is.kept (file_carries holds f.held f.file)) moves f.traced.run.run
      (at_rest f.net f.script st moves w.steps f.traced.ran.end f.file.kept f.traced.run.ends rest)
