-- How rounds end, as an answer.
use Rattle.std.proofs.Common.{◌≡◌, ◌≢◌, ◌∙◌, ℕ, ◌≤◌, List, ap, sym, subst, refl}
use Rattle.env_script.specs.Scripts.{OfferValue}
use Rattle.width_check.specs.Processes.{TypedProgram}
use Rattle.chp_meaning.specs.declared.run.RunEnd.{RunEnd}
use Rattle.chp_meaning.specs.declared.run.RunEnd.TheVariants.{Rest, Spent, TooMany}
use Rattle.chp_meaning.specs.Rounds.{rounds, rounds_from}
use Rattle.chp_meaning.specs.Steps.{Configuration, start_of}
use Rattle.chp_meaning.specs.Ends.{CanStep, IsEnd, held_in}
use Rattle.history_report.specs.RoundsReports.{rounds_report_of}
use Rattle.command_answers.specs.declared.answer.Ending.TheVariants.{Done}
use Rattle.command_answers.specs.Answers.{writes}
use Rattle.round_commands.specs.RoundsReporting.{ReportsRounds, at_rest, spent, most_of_values}

module _ (p : TypedProgram) (script : List OfferValue) (n : ℕ) where
  -- the report is of the configuration to which the rounds led
  abbrev IsReportOf : RunEnd → Configuration → List ℕ → Type 0
  IsReportOf end c text = text ≡ rounds_report_of p.channels n end c

  pub ended_rounds : (end : RunEnd) (old new : Configuration) (text : List ℕ) → end ≢ TooMany → old ≡ start_of p script → IsEnd n most_of_values old new end →
      IsReportOf end new text → ReportsRounds p script n (writes Done text)
  ended_rounds TooMany old new text other from is report = absurd (other refl)
  ended_rounds Rest old new text other from is report =
      let last : rounds_from old n ≡ rounds p script n = ap (λ (c : Configuration). rounds_from c n) from in
      let there : new ≡ rounds p script n = is.1 ∙ last in
      subst (λ (t : List ℕ). ReportsRounds p script n (writes Done t)) (sym (subst (λ (c : Configuration). IsReportOf Rest c text) there report))
      (at_rest (subst (λ (c : Configuration). held_in c ≤ most_of_values) last is.0) (subst (λ (c : Configuration). ¬ CanStep c) there is.2))
  ended_rounds Spent old new text other from is report =
      let last : rounds_from old n ≡ rounds p script n = ap (λ (c : Configuration). rounds_from c n) from in
      let there : new ≡ rounds p script n = is.1 ∙ last in
      subst (λ (t : List ℕ). ReportsRounds p script n (writes Done t)) (sym (subst (λ (c : Configuration). IsReportOf Spent c text) there report))
      (spent (subst (λ (c : Configuration). held_in c ≤ most_of_values) last is.0) (subst CanStep there is.2))
