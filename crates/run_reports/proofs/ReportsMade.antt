-- The report of a run, as an answer.
use Rattle.std.proofs.Common.{◌≡◌, ◌∙◌, ◌++◌, ℕ, List, Option, Some, None, sym, ap, subst}
use Rattle.env_script.specs.Scripts.{OfferValue}
use Rattle.event_sim.specs.Simulating.{RanValue}
use Rattle.history_report.specs.declared.comparison.Against.{Against}
use Rattle.history_report.specs.Comparing.{IsAgainst, against_line}
use Rattle.history_report.specs.Reports.{report_of}
use Rattle.width_check.specs.Processes.{TypedProgram}
use Rattle.command_answers.specs.declared.answer.Ending.{Ending}
use Rattle.command_answers.specs.declared.answer.Ending.TheVariants.{Done, Hazard}
use Rattle.command_answers.specs.Answers.{writes}
use Rattle.run_reports.specs.RunReporting.{IsReported, alone, hazardous, compared, ending_against, ending_for}

module _ (script : List OfferValue) (time : Option ℕ) (r : RanValue) where
  pub reported_alone : (end : Ending) (text : List ℕ) → end ≡ ending_for r.end → text ≡ report_of r time → IsReported script time r None (writes end text)
  reported_alone end text ended is = subst (λ e. IsReported script time r None (writes e text)) (sym ended)
      (subst (λ t. IsReported script time r None (writes (ending_for r.end) t)) (sym is) alone)

  pub reported_hazard : (p : TypedProgram) (text : List ℕ) → ending_for r.end ≡ Hazard → text ≡ report_of r time →
      IsReported script time r (Some p) (writes Hazard text)
  reported_hazard p text hazard is = subst (λ t. IsReported script time r (Some p) (writes Hazard t)) (sym is) (hazardous hazard)

  pub reported_against : (p : TypedProgram) (against : Against) (end : Ending) (text first line : List ℕ) → ending_for r.end ≡ Done →
      IsAgainst r p script against → end ≡ ending_against against → text ≡ first ++ line → first ≡ report_of r time → line ≡ against_line r.net against →
      IsReported script time r (Some p) (writes end text)
  reported_against p against end text first line calm is ended joined one two =
      subst (λ e. IsReported script time r (Some p) (writes e text)) (sym ended)
      (subst (λ t. IsReported script time r (Some p) (writes (ending_against against) t))
      (sym (joined ∙ (ap (λ xs. xs ++ line) one ∙ ap (λ xs. report_of r time ++ xs) two))) (compared against calm is))
