-- `simulate` with delays has at most one answer.
use Rattle.std.proofs.Common.{◌≡◌, ℕ, true, List, Option, Some, subst}
use Rattle.chp_syntax.specs.Trees.{ProgramTree}
use Rattle.delay_script.specs.declared.noted.NotedMove.{NotedMove}
use Rattle.delay_script.specs.TimedRuns.{TimedValue, IsTimedRan}
use Rattle.env_script.specs.Environment.{net_channels}
use Rattle.env_script.specs.Scripts.{OfferValue}
use Rattle.event_sim.specs.Simulating.{RanValue}
use Rattle.history_report.specs.declared.comparison.Against.{Against}
use Rattle.history_report.specs.Comparing.{IsAgainst}
use Rattle.prs_core.specs.Nets.{NetValue}
use Rattle.width_check.specs.Processes.{TypedProgram}
use Rattle.command_answers.specs.Answers.{Given, Answer, OneAnswer}
use Rattle.run_reports.specs.RunReporting.{IsReported}
use Rattle.command_steps.specs.Steps.{FromChecks}
use Rattle.command_words.specs.SimulateWords.{AskedTiming}
use Rattle.simulation_commands.specs.Timing.{TimesNet, TimesFile, SimulatesTimed, timing_for}
use Rattle.command_steps.proofs.OneAnswers.{file_once, net_once}
use Rattle.command_steps.proofs.OneRunSteps.{power_once, reference_once, script_once, delays_once}
use Rattle.simulation_commands.proofs.OneRuns.{reported_once}

module _ (ran : (t : TimedValue) (ms ns : List NotedMove) (r q : RanValue) (u v : ℕ) → IsTimedRan t ms r u → IsTimedRan t ns q v → r ≡ q)
    (time : (t : TimedValue) (ms ns : List NotedMove) (r q : RanValue) (u v : ℕ) → IsTimedRan t ms r u → IsTimedRan t ns q v → u ≡ v)
    (law : (r : RanValue) (p : TypedProgram) (script : List OfferValue) (a b : Against) → IsAgainst r p script a → IsAgainst r p script b → a ≡ b) where
  times_net_once : (t : TimedValue) (p : Option TypedProgram) (a b : Answer) → TimesNet t p a → TimesNet t p b → a ≡ b
  times_net_once t p a b x y =
      let rans = ran t y.moves x.moves y.ran x.ran y.time x.time y.run x.run in
      let times = time t y.moves x.moves y.ran x.ran y.time x.time y.run x.run in
      reported_once law t.script (Some x.time) x.ran p a b x.written
      (subst (λ u. IsReported t.script (Some u) x.ran p b) times (subst (λ r. IsReported t.script (Some y.time) r p b) rans y.written))

  module _ (checked : (program : ProgramTree) (Next : ProgramTree → Answer → Type 0) → ((plain : ProgramTree) → OneAnswer (Next plain)) →
      OneAnswer (FromChecks program Next)) where
    timed_file_once : (t : AskedTiming) (given : Given) → given.tells ≡ true → (net : NetValue) → OneAnswer (TimesFile t given net)
    timed_file_once t given told net = power_once net t.power _
        (file_once given t.script _ _ told (λ text. script_once (net_channels net) text _
        (λ script. file_once given t.delays _ _ told (λ words. delays_once net.names words _
        (λ delays. reference_once checked given told _ (λ p. times_net_once (timing_for t net script delays) p) t.against)))))

    pub times_once : (t : AskedTiming) (given : Given) → given.tells ≡ true → OneAnswer (SimulatesTimed t given)
    times_once t given told = file_once given t.net _ _ told (λ text. net_once text (TimesFile t given) (timed_file_once t given told))
