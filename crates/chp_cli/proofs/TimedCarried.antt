-- The timed run of a net that carries a program.
use Rattle.std.proofs.Common.{◌≡◌, ◌≢◌, ◌∙◌, ◌↔◌, ℕ, ◌<◌, Bool, true, List, length, None, sym, subst}
use Rattle.std.proofs.lemmas.List.{length-map}
use Rattle.std.specs.Prelude.{IsSome}
use Rattle.delay_script.specs.declared.noted.NotedMove.{NotedMove}
use Rattle.delay_script.specs.TimedRuns.{moved_nodes, timed_start}
use Rattle.prs_core.specs.Nets.{NetValue, IsNet}
use Rattle.env_script.specs.Scripts.{OfferValue}
use Rattle.env_script.specs.Runs.{RunState, IsApart, IsPowered, IsSafeMove, after, begin_at, history_at, moved}
use Rattle.env_script.specs.Hazards.{hazard_of}
use Rattle.env_script.proofs.Fronts.{ends_all}
use Rattle.event_sim.specs.Following.{power_of}
use Rattle.event_sim.specs.Passing.{passed_in, values_through}
use Rattle.event_sim.specs.Simulating.{RanValue}
use Rattle.chp_meaning.specs.Laws.{RoundsHold}
use Rattle.history_report.specs.declared.comparison.Against.{Against}
use Rattle.history_report.specs.declared.comparison.Against.TheVariants.{Agrees}
use Rattle.history_report.specs.Comparing.{IsAgainst}
use Rattle.width_check.specs.Processes.{TypedProgram}
use Rattle.width_check.specs.Sharing.{MeetsSharing}
use Rattle.command_answers.specs.declared.answer.Ending.{Ending}
use Rattle.command_answers.specs.declared.answer.Ending.TheVariants.{Done, Hazard}
use Rattle.command_answers.specs.Answers.{Given, Answer, writes}
use Rattle.command_steps.specs.References.{IsReferredTo}
use Rattle.run_reports.specs.RunReporting.{ending_for}
use Rattle.command_steps.specs.RunSteps.{has_power, a_script}
use Rattle.chp_cli.specs.MadeRuns.{EndsAllAtRest}
use Rattle.chp_cli.specs.Simulated.{HoldsCarrying}
use Rattle.simulation_commands.specs.Simulating.{power_or_low}
use Rattle.command_steps.specs.Steps.{a_file, a_net}
use Rattle.chp_cli.specs.TimedFiles.{IsFileTimed, timed_run}
use Rattle.command_words.specs.SimulateWords.{AskedTiming}
use Rattle.simulation_commands.specs.Timing.{SimulatesTimed, timing_for}
use Rattle.command_steps.specs.DelaySteps.{delays_read}
use Rattle.chp_cli.proofs.AgreeingRuns.{agrees, reported_done, same_reference}
use Rattle.grown_commands.proofs.SafeRuns.{all_safe, run_calm}
use Rattle.chp_cli.proofs.CalmRuns.{at_rest, file_carries, reported_calm}
use Rattle.command_steps.proofs.Referring.{reference_read}

-- ---- what is reported

pub timing_written : (t : AskedTiming) (given : Given) → given.tells ≡ true → (end : Ending) (text : List ℕ) →
    SimulatesTimed t given (writes end text) → IsFileTimed t given (writes end text)
timing_written t given told end text (a_file {text = x} gives short (a_net {net = n} is (has_power powered
    (a_file {text = w} reads fits (a_script {script = sc} are (a_file {text = d} says small (delays_read {delays = table} have next))))))) =
    let read = reference_read given _ t.against end text next in record {
      rules = x;
      net = n;
      told = w;
      script = sc;
      said = d;
      delays = table;
      program = read.0;
      held = gives told;
      file = is;
      powered = powered;
      held_script = reads told;
      told_is = are;
      held_delays = says told;
      said_are = have;
      referred = read.1;
      timed = read.2;
    }

module _ (powered : (net : NetValue) (high : Bool) → IsNet net → IsSome net.reset → IsPowered net (power_of net high))
    (law : (net : NetValue) (script : List OfferValue) (st : RunState) (n : ℕ) → IsNet net →
    ((IsSafeMove net script st n × IsApart net (moved net st n)) ↔ (hazard_of net script st n ≡ None))) where
  module _ (t : AskedTiming) (given : Given) (p : TypedProgram) (holds : HoldsCarrying given t.net p) where
    timed_calm : (a : Answer) (f : IsFileTimed t given a) → ending_for f.timed.ran.end ≡ Done
    timed_calm a f =
        let value = timing_for t f.net f.script f.delays in
        run_calm powered law f.net f.script (timed_start value) t.steps (moved_nodes f.timed.moves) f.timed.ran.end f.file.kept
        (all_safe powered f.net p f.script (power_or_low t.power) f.file.kept f.told_is.kept (file_carries holds f.held f.file)) f.timed.run.run
        f.timed.run.ends

    pub timed_no_hazard : (end : Ending) (text : List ℕ) → IsFileTimed t given (writes end text) → end ≢ Hazard
    timed_no_hazard end text f = reported_calm f.script _ f.timed.ran f.program end text f.timed.written (timed_calm _ f)

    pub timed_ends : (a : Answer) (f : IsFileTimed t given a) → EndsAllAtRest (timed_run t f)
    timed_ends a f = λ rest.
        let st = timed_start (timing_for t f.net f.script f.delays) in
        let moves = moved_nodes f.timed.moves in
        ends_all f.net f.script st f.file.kept
        (all_safe powered f.net p f.script (power_or_low t.power) f.file.kept f.told_is.kept (file_carries holds f.held f.file)) moves f.timed.run.run
        (at_rest f.net f.script st moves t.steps f.timed.ran.end f.file.kept f.timed.run.ends rest)

    module _ (hold : (p : TypedProgram) (script : List OfferValue) → MeetsSharing p.body → RoundsHold p script)
        (passed : (net : NetValue) (values : List Bool) (ns : List ℕ) (c : ℕ) → IsNet net → c < length net.channels →
        values_through c (passed_in net (begin_at net values) ns) ≡ history_at (after net (begin_at net values) ns).histories c)
        (one : (r : RanValue) (p : TypedProgram) (script : List OfferValue) (a b : Against) → IsAgainst r p script a → IsAgainst r p script b → a ≡ b)
        (told : given.tells ≡ true) (refers : IsReferredTo given t.against p) where
      pub timed_done : (end : Ending) (text : List ℕ) → IsFileTimed t given (writes end text) → end ≡ Done
      timed_done end text f =
          let run = f.timed.run in
          let ns = moved_nodes f.timed.moves in
          let count : f.timed.ran.moves ≡ length ns = run.moves ∙ sym (length-map f.timed.moves (λ (m : NotedMove). m.node)) in
          reported_done hold powered passed one f.script _ f.timed.ran f.program end text f.timed.written (timed_calm _ f)
          (λ q is. let own = same_reference hold powered passed one given told t.against p f.program refers f.referred q is in
          subst (λ x. IsAgainst f.timed.ran x f.script Agrees) (sym own.0)
          (agrees hold powered passed f.net p f.script (power_or_low t.power) f.file.kept own.1 f.told_is.kept
          (file_carries holds f.held f.file) ns run.run f.timed.ran
          run.net count run.passed))
