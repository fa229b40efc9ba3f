-- `simulate` has at most one answer.
use Rattle.std.proofs.Common.{◌≡◌, ◌∙◌, ℕ, true, List, ◌++◌, Option, Some, None, refl, sym, ap, ap₂, subst}
use Rattle.env_script.specs.Environment.{net_channels}
use Rattle.env_script.specs.Scripts.{OfferValue}
use Rattle.event_sim.specs.declared.ran.End.{End}
use Rattle.event_sim.specs.Ends.{EndsSo}
use Rattle.event_sim.specs.Simulating.{SimValue, RanValue, picked_moves, start_at}
use Rattle.prs_core.specs.Nets.{NetValue}
use Rattle.chp_syntax.specs.Trees.{ProgramTree}
use Rattle.history_report.specs.declared.comparison.Against.{Against}
use Rattle.history_report.specs.Comparing.{IsAgainst, against_line}
use Rattle.history_report.specs.Reports.{report_of}
use Rattle.width_check.specs.Processes.{TypedProgram}
use Rattle.command_answers.specs.Answers.{Given, Answer, writes, OneAnswer}
use Rattle.command_steps.specs.Orders.{OrderState, Played}
use Rattle.run_reports.specs.RunReporting.{IsReported, alone, hazardous, compared, ending_against}
use Rattle.command_words.specs.SimulateWords.{AskedRun}
use Rattle.simulation_commands.specs.Simulating.{HasPlayed, IsPlayed, SimulatesNet, SimulatesFile, Simulates, ran_value, simulation_for}
use Rattle.command_steps.specs.Steps.{FromChecks}
use Rattle.command_steps.proofs.OneAnswers.{file_once, net_once}
use Rattle.command_steps.proofs.OneRunSteps.{order_once, power_once, script_once, reference_once}

-- ---- the run to which an order led

one_end : (s : SimValue) (was now : List ℕ) (e f : End) → EndsSo s.net s.script s.steps (start_at s) (picked_moves s was now) e →
    EndsSo s.net s.script s.steps (start_at s) (picked_moves s was now) f → e ≡ f
one_end s was now e f is are = let p = is.ended in let q = are.ended in cc (p, q)

same_order : {held : Option OrderState} {a b : OrderState} → held ≡ Some a → held ≡ Some b → a ≡ b
same_order e f = cc (e, f)

pub played_once : (played : Played) (place seed : ℕ) (s : SimValue) (a b : RanValue) → HasPlayed played place seed s a →
    HasPlayed played place seed s b → a ≡ b
played_once played place seed s a b p q =
    let before : q.was ≡ p.was = same_order q.before p.before in
    let after : q.is ≡ p.is = same_order q.after p.after in
    let run : IsPlayed s seed p.was p.is b.end =
    subst (λ is. IsPlayed s seed p.was is b.end) after (subst (λ was. IsPlayed s seed was q.is b.end) before q.run) in
    let led : b ≡ ran_value s p.was.log p.is.log b.end = q.led ∙ ap₂ (λ (was is : OrderState). ran_value s was.log is.log b.end) before after in
    let ends : a.end ≡ b.end = one_end s p.was.log p.is.log a.end b.end p.run.ends run.ends in
    p.led ∙ (ap (λ (end : End). ran_value s p.was.log p.is.log end) ends ∙ sym led)

module _ (Next : RanValue → Answer → Type 0) (next : (r : RanValue) → OneAnswer (Next r)) where
  net_run_once : (played : Played) (place seed : ℕ) (s : SimValue) (a b : Answer) → SimulatesNet played place seed s Next a →
      SimulatesNet played place seed s Next b → a ≡ b
  net_run_once played place seed s a b p q =
      next p.ran a b p.written (subst (λ (ran : RanValue). Next ran b) (played_once played place seed s q.ran p.ran q.run p.run) q.written)

-- ---- what is compared with what, and how it stands

module _ (law : (r : RanValue) (p : TypedProgram) (script : List OfferValue) (a b : Against) → IsAgainst r p script a → IsAgainst r p script b → a ≡ b) where
  pub reported_once : (script : List OfferValue) (time : Option ℕ) (r : RanValue) (p : Option TypedProgram) (a b : Answer) → IsReported script time r p a →
      IsReported script time r p b → a ≡ b
  reported_once script time r p a b alone alone = refl
  reported_once script time r p a b (hazardous hazard) (hazardous also) = refl
  reported_once script time r p a b (hazardous hazard) (compared x calm is) = absurd (cc (hazard, calm))
  reported_once script time r p a b (compared x calm is) (hazardous hazard) = absurd (cc (hazard, calm))
  reported_once script time r (Some p) a b (compared x calm is) (compared y also are) =
      ap (λ (against : Against). writes (ending_against against) (report_of r time ++ against_line r.net against)) (law r p script x y is are)

module _ (checked : (program : ProgramTree) (Next : ProgramTree → Answer → Type 0) → ((plain : ProgramTree) → OneAnswer (Next plain)) →
    OneAnswer (FromChecks program Next))
    (law : (r : RanValue) (p : TypedProgram) (script : List OfferValue) (a b : Against) → IsAgainst r p script a → IsAgainst r p script b → a ≡ b) where
  file_run_once : (run : AskedRun) (given : Given) (played : Played) → given.tells ≡ true → (place : ℕ) (net : NetValue) →
      OneAnswer (SimulatesFile run given played place net)
  file_run_once run given played told place net = power_once net run.power _
      (file_once given run.script _ _ told (λ text. script_once (net_channels net) text _
      (λ script. reference_once checked given told _
      (λ p. net_run_once (λ ran. IsReported script None ran p) (λ ran. reported_once law script None ran p) played place run.seed
      (simulation_for net script run.steps run.power)) run.against)))

  pub simulate_once : (run : AskedRun) (given : Given) (played : Played) → given.tells ≡ true → OneAnswer (Simulates run given played)
  simulate_once run given played told = order_once played run.order _
      (λ place. file_once given run.net _ _ told (λ text. net_once text (SimulatesFile run given played place)
      (file_run_once run given played told place)))
