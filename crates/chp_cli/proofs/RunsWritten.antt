-- Where nothing speaks against it, `simulate` writes.
use Rattle.std.proofs.Common.{◌≡◌, ℕ, true, List, Option, None, refl}
use Rattle.chp_base.specs.declared.fault.Fault.{Fault}
use Rattle.chp_syntax.specs.Trees.{ProgramTree}
use Rattle.env_script.specs.Environment.{net_channels}
use Rattle.env_script.specs.Scripts.{OfferValue}
use Rattle.event_sim.specs.declared.ran.End.{End}
use Rattle.event_sim.specs.declared.ran.End.TheVariants as end
use Rattle.event_sim.specs.Simulating.{RanValue}
use Rattle.history_report.specs.declared.comparison.Against.{Against}
use Rattle.history_report.specs.declared.comparison.Against.TheVariants as against
use Rattle.width_check.specs.Accepted.{IsAccepted}
use Rattle.width_check.specs.Processes.{TypedProgram}
use Rattle.command_answers.specs.Answers.{Given, Answer, status_of, status_with}
use Rattle.command_steps.specs.Orders.{Played}
use Rattle.run_reports.specs.RunReporting.{IsReported, alone, hazardous, compared, ending_against, ending_for}
use Rattle.command_steps.specs.RunSteps.{most_of_script}
use Rattle.chp_cli.specs.Serving.{IsToSimulate}
use Rattle.command_words.specs.SimulateWords.{AskedRun}
use Rattle.simulation_commands.specs.Simulating.{Simulates, SimulatesAt, SimulatesFile, SimulatesNet, simulation_for}
use Rattle.command_answers.specs.Statuses.{is_whole}
use Rattle.command_steps.specs.Steps.{FromNet, IsFaulty, most_of_net}
use Rattle.command_steps.proofs.StepsPassed.{file_passed, net_passed, order_passed, power_passed, script_passed, reference_passed}

pub whole_end : (e : End) → is_whole (status_with (ending_for e)) ≡ true
whole_end end.AtRest = refl
whole_end end.Spent = refl
whole_end (end.Unstable n) = refl
whole_end (end.BothWays n) = refl
whole_end (end.Protocol c) = refl

whole_against : (x : Against) → is_whole (status_with (ending_against x)) ≡ true
whole_against against.Agrees = refl
whole_against against.Channels = refl
whole_against (against.Differs chan place) = refl

pub whole_report : (script : List OfferValue) (time : Option ℕ) (r : RanValue) (p : Option TypedProgram) (a : Answer) → IsReported script time r p a →
    is_whole (status_of a) ≡ true
whole_report script time r p a alone = whole_end r.end
whole_report script time r p a (hazardous hazard) = refl
whole_report script time r p a (compared x calm is) = whole_against x

abbrev IsWritten : Answer → Type 0
IsWritten a = is_whole (status_of a) ≡ true

module _ (no_fault : (program : ProgramTree) (f : Fault) → IsAccepted program → ¬ IsFaulty program f)
    (s : AskedRun) (given : Given) (played : Played) (told : given.tells ≡ true) (t : IsToSimulate s given played) where
  abbrev reported_by : Option TypedProgram → Answer → Type 0
  reported_by p = SimulatesNet played t.place s.seed (simulation_for t.net t.script s.steps s.power) (λ ran. IsReported t.script None ran p)

  pub simulate_writes : (a : Answer) → Simulates s given played a → is_whole (status_of a) ≡ true
  simulate_writes =
      let n = t.net in
      order_passed IsWritten played s.order t.place t.named (SimulatesAt s given played)
      (file_passed IsWritten given told s.net t.rules.text most_of_net t.rules.held (λ text. FromNet text (SimulatesFile s given played t.place))
      (net_passed IsWritten t.rules.text n t.rules.kept t.rules.spelled (SimulatesFile s given played t.place)
      (power_passed IsWritten n s.power t.powered _
      (file_passed IsWritten given told s.script t.offers.text most_of_script t.offers.held _
      (script_passed IsWritten (net_channels n) t.offers.text t.script t.offers.says _
      (reference_passed IsWritten no_fault given told s.against t.referable reported_by (λ p a is. whole_report t.script None is.ran p a is.written)))))))
