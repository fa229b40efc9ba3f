-- What the simulation of a net that carries a program comes to.
use Rattle.std.proofs.Common.{◌≡◌, ◌≢◌, ◌∙◌, ◌↔◌, ℕ, Bool, true, false, List, [], ◌∷◌, Option, Some, None, ◌⊎◌, refl, ap, subst}
use Rattle.std.specs.Prelude.{IsSome}
use Rattle.prs_core.specs.Nets.{NetValue, IsNet}
use Rattle.env_script.specs.Scripts.{OfferValue}
use Rattle.env_script.specs.Runs.{RunState, IsRun, IsAtRest, IsApart, IsSafeMove, IsPowered, after, moved}
use Rattle.env_script.specs.declared.hazard.Hazard.{Hazard}
use Rattle.env_script.specs.Hazards.{hazard_of}
use Rattle.env_script.specs.OneLength.{AllSafe}
use Rattle.env_script.proofs.Fronts.{ends_all}
use Rattle.event_sim.specs.declared.ran.End.{End}
use Rattle.event_sim.specs.declared.ran.End.TheVariants.{AtRest}
use Rattle.event_sim.specs.Ends.{EndsSo, end_from, end_with, last_hazard}
use Rattle.event_sim.specs.Following.{power_of}
use Rattle.event_sim.specs.Simulating.{RanValue, picked_moves, start_at}
use Rattle.history_report.specs.declared.comparison.Against.{Against}
use Rattle.history_report.specs.declared.comparison.Against.TheVariants.{Agrees, Channels, Differs}
use Rattle.event_sim.proofs.Following.{picked_run}
use Rattle.event_sim.proofs.Ranges.{rests}
use Rattle.net_compose.specs.Carries.{Carries, CarriesReset}
use Rattle.width_check.specs.Processes.{TypedProgram}
use Rattle.prs_file.specs.Spelling.{NetText}
use Rattle.command_answers.specs.declared.answer.Ending.{Ending}
use Rattle.command_answers.specs.declared.answer.Ending.TheVariants.{Done, Hazard as Hazardous}
use Rattle.command_answers.specs.Answers.{Given, Answer, writes}
use Rattle.command_steps.specs.Orders.{Played}
use Rattle.run_reports.specs.RunReporting.{IsReported, alone, hazardous, compared, ending_against, ending_for}
use Rattle.command_steps.specs.RunSteps.{an_order, has_power, a_script}
use Rattle.chp_cli.specs.MadeRuns.{EndsAllAtRest}
use Rattle.chp_cli.specs.Simulated.{IsFileSimulated, HoldsCarrying, simulated_run}
use Rattle.command_words.specs.SimulateWords.{AskedRun}
use Rattle.simulation_commands.specs.Simulating.{Simulates, simulation_for}
use Rattle.command_steps.specs.Steps.{IsFileOf, a_file, a_net}
use Rattle.command_steps.proofs.OneAnswers.{same_text}
use Rattle.command_steps.proofs.Referring.{reference_read}
use Rattle.grown_commands.proofs.SafeRuns.{all_safe, run_calm}

-- ---- what is reported

pub simulation_written : (s : AskedRun) (given : Given) (played : Played) → given.tells ≡ true → (end : Ending) (text : List ℕ) →
    Simulates s given played (writes end text) → IsFileSimulated s given played (writes end text)
simulation_written s given played told end text (an_order {place = k} named (a_file {text = x} gives short (a_net {net = n} is (has_power powered
    (a_file {text = t} reads fits (a_script {script = sc} are next)))))) =
    let read = reference_read given _ s.against end text next in
    let plays = read.2 in record {
      rules = x;
      net = n;
      told = t;
      script = sc;
      program = read.0;
      place = k;
      ran = plays.ran;
      held = gives told;
      file = is;
      held_script = reads told;
      told_is = are;
      powered = powered;
      referred = read.1;
      named = named;
      run = plays.run;
      written = plays.written;
    }

-- the report of a run without a hazard doesn't end in one
against_calm : (x : Against) → ending_against x ≢ Hazardous
against_calm Agrees = λ e. cc e
against_calm Channels = λ e. cc e
against_calm (Differs chan place) = λ e. cc e

pub reported_calm : (script : List OfferValue) (time : Option ℕ) (r : RanValue) (p : Option TypedProgram) (end : Ending) (text : List ℕ) →
    IsReported script time r p (writes end text) → ending_for r.end ≡ Done → end ≢ Hazardous
reported_calm script time r p end text alone calm = λ e. cc (calm, e)
reported_calm script time r p end text (hazardous hazard) calm = λ e. cc (calm, hazard)
reported_calm script time r p end text (compared x also is) calm = against_calm x

rest_empties : (last : Option Hazard) (xs : List ℕ) (spent : Bool) → end_with last xs spent ≡ Some AtRest → xs ≡ []
rest_empties last [] spent ended = refl
rest_empties None (x ∷ xs) true ended = absurd (cc ended)
rest_empties None (x ∷ xs) false ended = absurd (cc ended)
rest_empties (Some h) (x ∷ xs) spent ended = absurd (by_hazard h ended)
  where
    by_hazard : (h : Hazard) → Some (end_from h) ≡ Some AtRest → ⊥
    by_hazard (Hazard.BothWays n) e = cc e
    by_hazard (Hazard.Unstable n) e = cc e
    by_hazard (Hazard.Protocol c) e = cc e

-- where a run has ended at rest no move is enabled
pub at_rest : (net : NetValue) (script : List OfferValue) (st : RunState) (ns : List ℕ) (steps : ℕ) (end : End) → IsNet net → EndsSo net script steps st ns end
    → end ≡ AtRest → IsAtRest net script (after net st ns)
at_rest net script st ns steps end kept ends rest =
    rests net script (after net st ns) kept (rest_empties (last_hazard net script st ns) _ _ (ends.ended ∙ ap (λ e. Some e) rest))

-- ---- the net of a file carries the program

-- the net of a file is the one that it holds
pub file_carries : {given : Given} {file rules : List ℕ} {net : NetValue} {p : TypedProgram} → HoldsCarrying given file p → given.files file ≡ Some rules →
    IsFileOf rules net → ((net.reset ≡ None) × Carries net p) ⊎ CarriesReset net p
file_carries {p = p} holds held is =
    subst (λ n. ((n.reset ≡ None) × Carries n p) ⊎ CarriesReset n p)
    (is.only holds.net holds.kept (subst (λ x. NetText x holds.net) (same_text holds.held held) holds.spelled)) holds.carries

module _ (powered : (net : NetValue) (high : Bool) → IsNet net → IsSome net.reset → IsPowered net (power_of net high))
    (law : (net : NetValue) (script : List OfferValue) (st : RunState) (n : ℕ) → IsNet net →
    ((IsSafeMove net script st n × IsApart net (moved net st n)) ↔ (hazard_of net script st n ≡ None)))
    (s : AskedRun) (given : Given) (played : Played) (p : TypedProgram) (holds : HoldsCarrying given s.net p) where
  pub carried_safe : (a : Answer) (f : IsFileSimulated s given played a) → AllSafe f.net f.script (start_at (simulation_for f.net f.script s.steps s.power))
  carried_safe a f = all_safe powered f.net p f.script _ f.file.kept f.told_is.kept (file_carries holds f.held f.file)

  pub carried_calm : (a : Answer) (f : IsFileSimulated s given played a) → ending_for f.ran.end ≡ Done
  carried_calm a f =
      let sim = simulation_for f.net f.script s.steps s.power in
      run_calm powered law f.net f.script (start_at sim) s.steps _ f.ran.end f.file.kept (carried_safe a f)
      (picked_run f.net f.script (start_at sim) _ f.run.run.picks) f.run.run.ends

  pub carried_no_hazard : (end : Ending) (text : List ℕ) → IsFileSimulated s given played (writes end text) → end ≢ Hazardous
  carried_no_hazard end text f = reported_calm f.script None _ f.program end text f.written (carried_calm _ f)

  pub carried_ends : (a : Answer) (f : IsFileSimulated s given played a) → EndsAllAtRest (simulated_run s f)
  carried_ends a f = λ rest.
      let sim = simulation_for f.net f.script s.steps s.power in
      let moves = picked_moves sim f.run.was.log f.run.is.log in
      let run : IsRun f.net f.script (start_at sim) moves = picked_run f.net f.script (start_at sim) _ f.run.run.picks in
      let still = at_rest f.net f.script (start_at sim) moves s.steps f.ran.end f.file.kept f.run.run.ends rest in
      ends_all f.net f.script (start_at sim) f.file.kept (carried_safe a f) moves run still
