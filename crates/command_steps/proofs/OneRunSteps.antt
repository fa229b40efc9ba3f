-- Each step of a command that makes runs has at most one answer.
use Rattle.std.proofs.Common.{◌≡◌, ◌∙◌, ℕ, Bool, true, List, Option, Some, None, refl, ap, subst}
use Rattle.chp_base.specs.declared.channel.Channel.{Channel}
use Rattle.env_script.specs.Scripts.{OfferValue}
use Rattle.prs_core.specs.Nets.{NetValue}
use Rattle.chp_syntax.specs.Trees.{ProgramTree}
use Rattle.width_check.specs.Form.{typed_form}
use Rattle.width_check.specs.Processes.{TypedProgram}
use Rattle.command_answers.specs.declared.status.Status.TheVariants.{BadFile}
use Rattle.command_answers.specs.Answers.{Given, Answer, refuses, OneAnswer}
use Rattle.command_answers.specs.Lines.{bad_script_line, bad_delays_line}
use Rattle.command_steps.specs.Orders.{Played}
use Rattle.command_steps.specs.References.{FromReference}
use Rattle.command_steps.specs.RunSteps.{FromOrder, no_order, an_order, FromPower, no_reset, has_power, FromScript, no_script, a_script}
use Rattle.command_steps.specs.Steps.{FromChecks}
use Rattle.command_steps.proofs.OneAnswers.{file_once, program_once}
use Rattle.delay_script.specs.DelayTables.{DelayTable}
use Rattle.command_steps.specs.DelaySteps.{FromDelays, delays_refused, delays_read}

module _ (played : Played) (name : List ℕ) (Next : ℕ → Answer → Type 0) (next : (place : ℕ) → OneAnswer (Next place)) where
  pub order_once : (a b : Answer) → FromOrder played name Next a → FromOrder played name Next b → a ≡ b
  order_once a b (no_order n) (no_order m) = refl
  order_once a b (no_order n) (an_order is m) = absurd (cc (n, is))
  order_once a b (an_order is n) (no_order m) = absurd (cc (m, is))
  order_once a b (an_order {place = p} is n) (an_order {place = q} are m) =
      let same : q ≡ p = cc (is, are) in
      next p a b n (subst (λ r. Next r b) same m)

module _ (net : NetValue) (power : Option Bool) (Next : Answer → Type 0) (next : OneAnswer Next) where
  pub power_once : (a b : Answer) → FromPower net power Next a → FromPower net power Next b → a ≡ b
  power_once a b (no_reset n) (no_reset m) = refl
  power_once a b (no_reset n) (has_power is m) = absurd (cc (n, is))
  power_once a b (has_power is n) (no_reset m) = absurd (cc (m, is))
  power_once a b (has_power is n) (has_power are m) = next a b n m

module _ (channels : List Channel) (text : List ℕ) (Next : List OfferValue → Answer → Type 0) (next : (script : List OfferValue) →
    OneAnswer (Next script)) where
  pub script_once : (a b : Answer) → FromScript channels text Next a → FromScript channels text Next b → a ≡ b
  script_once a b (no_script {fault = f} {line = l} n) (no_script {fault = g} {line = k} m) =
      let same = m.only f l n.cause in
      ap (λ h. refuses BadFile (bad_script_line h l)) same.0 ∙ ap (λ i. refuses BadFile (bad_script_line g i)) same.1
  script_once a b (no_script n) (a_script {script = s} is m) = absurd (n.never s is.told)
  script_once a b (a_script {script = s} is n) (no_script m) = absurd (m.never s is.told)
  script_once a b (a_script {script = s} is n) (a_script {script = t} are m) = next s a b n (subst (λ r. Next r b) (is.only t are.told) m)

module _ (checked : (program : ProgramTree) (Next : ProgramTree → Answer → Type 0) → ((plain : ProgramTree) → OneAnswer (Next plain)) →
    OneAnswer (FromChecks program Next)) where
  pub reference_once : (given : Given) → given.tells ≡ true → (Next : Option TypedProgram → Answer → Type 0) →
      ((p : Option TypedProgram) → OneAnswer (Next p)) → (file : Option (List ℕ)) → OneAnswer (FromReference given file Next)
  reference_once given told Next next None = next None
  reference_once given told Next next (Some file) = file_once given file _ _ told
      (λ text. program_once text _ (λ program. checked program _ (λ plain. next (Some (typed_form plain)))))

module _ (names : List (List ℕ)) (text : List ℕ) (Next : DelayTable → Answer → Type 0) (next : (delays : DelayTable) → OneAnswer (Next delays)) where
  pub delays_once : (a b : Answer) → FromDelays names text Next a → FromDelays names text Next b → a ≡ b
  delays_once a b (delays_refused {fault = f} {line = l} n) (delays_refused {fault = g} {line = k} m) =
      let same = m.only f l n.cause in
      ap (λ h. refuses BadFile (bad_delays_line h l)) same.0 ∙ ap (λ i. refuses BadFile (bad_delays_line g i)) same.1
  delays_once a b (delays_refused n) (delays_read {delays = d} is m) = absurd (n.never d is.told)
  delays_once a b (delays_read {delays = d} is n) (delays_refused m) = absurd (m.never d is.told)
  delays_once a b (delays_read {delays = d} is n) (delays_read {delays = e} are m) = next d a b n (subst (λ r. Next r b) (is.only e are.told) m)
