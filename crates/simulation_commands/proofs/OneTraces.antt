-- `waves` has at most one answer.
use Rattle.std.proofs.Common.{◌≡◌, ◌∙◌, ℕ, Bool, true, false, List, length, Option, Some, None, sym, ap, subst}
use Rattle.delay_script.specs.declared.noted.NotedMove.{NotedMove}
use Rattle.delay_script.specs.DelayTables.{DelayTable, unit_delays}
use Rattle.delay_script.specs.TimedRuns.{TimedValue, IsTimedRan}
use Rattle.env_script.specs.Environment.{net_channels}
use Rattle.event_sim.specs.Simulating.{RanValue}
use Rattle.prs_core.specs.Nets.{NetValue}
use Rattle.wave_file.specs.CauseChains.{TellsCauses}
use Rattle.command_answers.specs.Answers.{Given, Answer, writes, OneAnswer}
use Rattle.run_reports.specs.RunReporting.{ending_for}
use Rattle.command_words.specs.WavesWords.{AskedWaves}
use Rattle.command_steps.specs.DelaySteps.{FromDelayFile}
use Rattle.simulation_commands.specs.Tracing.{IsTraceText, TracesNet, TracesFile, Traces, trace_for}
use Rattle.command_steps.proofs.OneAnswers.{file_once, net_once}
use Rattle.command_steps.proofs.OneRunSteps.{script_once, delays_once}

module _ (moves : (t : TimedValue) (ms ns : List NotedMove) (r q : RanValue) (u v : ℕ) → IsTimedRan t ms r u → IsTimedRan t ns q v → ms ≡ ns)
    (rans : (t : TimedValue) (ms ns : List NotedMove) (r q : RanValue) (u v : ℕ) → IsTimedRan t ms r u → IsTimedRan t ns q v → r ≡ q)
    (told : (names : List (List ℕ)) (d : DelayTable) (given : List Bool) (ms : List NotedMove) (a b : List ℕ) → TellsCauses names d given ms a →
    TellsCauses names d given ms b → a ≡ b) where
  text_once : (net : NetValue) (high : Bool) (d : DelayTable) (ms : List NotedMove) (causes : Bool) (a b : List ℕ) → IsTraceText net high d ms causes a →
      IsTraceText net high d ms causes b → a ≡ b
  text_once net high d ms false a b one two = one.spelled ∙ sym two.spelled
  text_once net high d ms true a b one two = told _ _ _ _ a b one two

  traces_net_once : (t : TimedValue) (causes : Bool) (a b : Answer) → TracesNet t causes a → TracesNet t causes b → a ≡ b
  traces_net_once t causes a b x y =
      let same : y.moves ≡ x.moves = moves t y.moves x.moves y.ran x.ran y.time x.time y.run x.run in
      let text : x.text ≡ y.text =
      text_once t.net t.high t.delays x.moves causes x.text y.text x.traced (subst (λ ms. IsTraceText t.net t.high t.delays ms causes y.text) same y.traced) in
      let ran : x.ran ≡ y.ran = rans t x.moves y.moves x.ran y.ran x.time y.time x.run y.run in
      x.written ∙ (ap (λ (s : List ℕ). writes (ending_for x.ran.end) s) text
      ∙ (ap (λ (r : RanValue). writes (ending_for r.end) y.text) ran ∙ sym y.written))

  delay_file_once : (given : Given) (names : List (List ℕ)) (Next : DelayTable → Answer → Type 0) → given.tells ≡ true →
      ((delays : DelayTable) → OneAnswer (Next delays)) → (file : Option (List ℕ)) → OneAnswer (FromDelayFile given file names Next)
  delay_file_once given names Next tells next None = next (unit_delays (length names))
  delay_file_once given names Next tells next (Some file) = file_once given file _ _ tells (λ text. delays_once names text Next next)

  traces_file_once : (w : AskedWaves) (given : Given) → given.tells ≡ true → (net : NetValue) → OneAnswer (TracesFile w given net)
  traces_file_once w given tells net = file_once given w.script _ _ tells (λ text. script_once (net_channels net) text _
      (λ script. delay_file_once given net.names _ tells (λ delays. traces_net_once (trace_for w net script delays) w.causes) w.delays))

  pub traces_once : (w : AskedWaves) (given : Given) → given.tells ≡ true → OneAnswer (Traces w given)
  traces_once w given tells = file_once given w.net _ _ tells (λ text. net_once text (TracesFile w given) (traces_file_once w given tells))
