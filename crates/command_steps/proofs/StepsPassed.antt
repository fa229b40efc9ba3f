-- Where nothing speaks against it a command passes a step: what holds of each answer with which it goes on holds of each answer.
--
-- P: what is to hold of each answer; Next: with what the command goes on.
use Rattle.std.proofs.Common.{◌≡◌, ℕ, ◌≤◌, true, false, Bool, List, Option, Some, None, sym, subst, arith}
use Rattle.chp_base.specs.declared.channel.Channel.{Channel}
use Rattle.chp_base.specs.declared.fault.Fault.{Fault}
use Rattle.chp_syntax.specs.Reading.{Reads}
use Rattle.chp_syntax.specs.Trees.{ProgramTree}
use Rattle.delay_script.specs.DelayTables.{DelayTable}
use Rattle.delay_script.specs.DelayText.{IsDelayText}
use Rattle.env_script.specs.Scripts.{OfferValue}
use Rattle.env_script.specs.ScriptText.{IsScriptText}
use Rattle.handshake_expand.specs.Layout.{node_count}
use Rattle.prs_core.specs.Nets.{NetValue, IsNet}
use Rattle.prs_file.specs.Spelling.{NetText}
use Rattle.width_check.specs.Accepted.{IsAccepted}
use Rattle.width_check.specs.Form.{typed_form}
use Rattle.width_check.specs.Processes.{TypedProgram}
use Rattle.command_answers.specs.Answers.{Given, Answer}
use Rattle.command_steps.specs.BufferSteps.{FromBuffer, IsBuffered, no_channel, has_channel}
use Rattle.command_steps.specs.Inlined.{Means}
use Rattle.command_steps.specs.Orders.{Played, place_named}
use Rattle.command_steps.specs.References.{FromReference, IsToReferTo}
use Rattle.command_steps.specs.RunSteps.{FromOrder, FromPower, FromScript, no_order, an_order, no_reset, has_power, no_script, a_script, lacks_reset}
use Rattle.command_steps.specs.FileContents.{HoldsText}
use Rattle.command_steps.specs.Steps.{FromFile, FromProgram, FromChecks, FromNodes, FromNet, IsFaulty, no_file, long_file, a_file, no_program, a_program, bad_calls, too_many_forms, faulty, accepted, too_many, few_enough, no_net, a_net, most_of_nodes, most_of_text}
use Rattle.command_steps.specs.DelaySteps.{FromDelays, delays_refused, delays_read}
use Rattle.command_steps.proofs.OneAnswers.{same_text, too_long, not_there, needs_channel, one_buffered}
use Rattle.command_steps.proofs.OneMeaning.{bad_or_meant, large_or_meant, means_once}

module _ (P : Answer → Type 0) where
  pub file_passed : (given : Given) → given.tells ≡ true → (name text : List ℕ) (most : ℕ) → HoldsText given name most text
      → (Next : List ℕ → Answer → Type 0) → ((a : Answer) → Next text a → P a) → (a : Answer) → FromFile given name most Next a → P a
  file_passed given told name text most h Next next a (no_file lacks) = not_there lacks.none h.held
  file_passed given told name text most h Next next a (long_file long) = too_long (long told).1 h.held (long told).2 h.short
  file_passed given told name text most h Next next a (a_file {text = x} gives short is) =
      next a (subst (λ y. Next y a) (same_text (gives told) h.held) is)

  pub program_passed : (text : List ℕ) (p : ProgramTree) → Reads text p → (Next : ProgramTree → Answer → Type 0) → ((a : Answer) → Next p a → P a)
      → (a : Answer) → FromProgram text Next a → P a
  program_passed text p reads Next next a (no_program none) = absurd (none.never p reads)
  program_passed text p reads Next next a (a_program is are) = next a (subst (λ (q : ProgramTree). Next q a) (sym (is.only p reads)) are)

  pub nodes_passed : (p : TypedProgram) → node_count p ≤ most_of_nodes → (Next : TypedProgram → Answer → Type 0) → ((a : Answer) → Next p a → P a)
      → (a : Answer) → FromNodes p Next a → P a
  nodes_passed p few Next next a (too_many many) = absurd (omega (arith, few, many))
  nodes_passed p few Next next a (few_enough within is) = next a is

  pub buffer_passed : (p made : ProgramTree) (chan : Option (List ℕ)) → IsBuffered p chan made → (Next : TypedProgram → Answer → Type 0)
      → ((a : Answer) → Next (typed_form made) a → P a) → (a : Answer) → FromBuffer p chan Next a → P a
  buffer_passed p made chan buffered Next next a (no_channel {name = x} named not) = needs_channel p chan x made named not buffered
  buffer_passed p made chan buffered Next next a (has_channel other also keeps is) =
      next a (subst (λ (t : ProgramTree). Next (typed_form t) a) (one_buffered p chan other made also buffered) is)

  pub net_passed : (text : List ℕ) (net : NetValue) → IsNet net → NetText text net → (Next : NetValue → Answer → Type 0) → ((a : Answer) → Next net a → P a)
      → (a : Answer) → FromNet text Next a → P a
  net_passed text net kept spelled Next next a (no_net none) = absurd (none.never net kept spelled)
  net_passed text net kept spelled Next next a (a_net is are) = next a (subst (λ (n : NetValue). Next n a) (sym (is.only net kept spelled)) are)

  pub order_passed : (played : Played) (name : List ℕ) (place : ℕ) → place_named played.before name ≡ Some place → (Next : ℕ → Answer → Type 0)
      → ((a : Answer) → Next place a → P a) → (a : Answer) → FromOrder played name Next a → P a
  order_passed played name place named Next next a (no_order none) = absurd (cc (none, named))
  order_passed played name place named Next next a (an_order {place = k} is are) = next a (subst (λ j. Next j a) (same is) are)
    where
      same : place_named played.before name ≡ Some k → k ≡ place
      same e = cc (e, named)

  pub power_passed : (net : NetValue) (power : Option Bool) → lacks_reset power net.reset ≡ false → (Next : Answer → Type 0) → ((a : Answer) → Next a → P a)
      → (a : Answer) → FromPower net power Next a → P a
  power_passed net power powered Next next a (no_reset lacks) = absurd (cc (lacks, powered))
  power_passed net power powered Next next a (has_power is are) = next a are

  pub script_passed : (channels : List Channel) (text : List ℕ) (script : List OfferValue) → IsScriptText channels text script
      → (Next : List OfferValue → Answer → Type 0) → ((a : Answer) → Next script a → P a) → (a : Answer) → FromScript channels text Next a → P a
  script_passed channels text script says Next next a (no_script none) = absurd (none.never script says)
  script_passed channels text script says Next next a (a_script is are) = next a (subst (λ (s : List OfferValue). Next s a) (sym (is.only script says)) are)

  pub delays_passed : (names : List (List ℕ)) (text : List ℕ) (delays : DelayTable) → IsDelayText names text delays → (Next : DelayTable → Answer → Type 0)
      → ((a : Answer) → Next delays a → P a) → (a : Answer) → FromDelays names text Next a → P a
  delays_passed names text delays says Next next a (delays_refused none) = absurd (none.never delays says)
  delays_passed names text delays says Next next a (delays_read is are) = next a (subst (λ (d : DelayTable). Next d a) (sym (is.only delays says)) are)

  module _ (no_fault : (program : ProgramTree) (f : Fault) → IsAccepted program → ¬ IsFaulty program f) where
    pub checks_passed : (p plain : ProgramTree) → Means p plain → IsAccepted plain → (Next : ProgramTree → Answer → Type 0)
        → ((a : Answer) → Next plain a → P a) → (a : Answer) → FromChecks p Next a → P a
    checks_passed p plain means are Next next a (bad_calls {fault = f} calls fault) = bad_or_meant f calls fault means
    checks_passed p plain means are Next next a (too_many_forms calls meets large) = large_or_meant calls large means
    checks_passed p plain means are Next next a (faulty {fault = f} also bad) =
        absurd (no_fault plain f are (subst (λ (t : ProgramTree). IsFaulty t f) (means_once also means) bad))
    checks_passed p plain means are Next next a (accepted also accept is) =
        next a (subst (λ (t : ProgramTree). Next t a) (means_once also means) is)

    -- Next: with what the command goes on for a program, and the one that it means
    pub text_passed : (given : Given) → given.tells ≡ true → (name text : List ℕ) (p plain : ProgramTree) → HoldsText given name most_of_text text
        → Reads text p → Means p plain → IsAccepted plain → (Next : (program plain : ProgramTree) → Answer → Type 0) → ((a : Answer) → Next p plain a → P a)
        → (a : Answer) → FromFile given name most_of_text (λ t. FromProgram t (λ q. FromChecks q (Next q))) a → P a
    text_passed given told name text p plain h reads means are Next next a is =
        file_passed given told name text most_of_text h (λ t. FromProgram t (λ q. FromChecks q (Next q)))
        (λ b from. program_passed text p reads (λ q. FromChecks q (Next q)) (λ c checks. checks_passed p plain means are (Next p) next c checks) b from) a is

    pub reference_passed : (given : Given) → given.tells ≡ true → (file : Option (List ℕ)) → IsToReferTo given file
        → (Next : Option TypedProgram → Answer → Type 0) → ((p : Option TypedProgram) (a : Answer) → Next p a → P a)
        → (a : Answer) → FromReference given file Next a → P a
    reference_passed given told None t Next next a is = next None a is
    reference_passed given told (Some file) t Next next a is =
        text_passed given told file t.text t.program t.plain (record { held = t.held; short = t.short }) t.reads t.means t.accepted
        (λ q plain. Next (Some (typed_form plain))) (λ b also. next (Some (typed_form t.plain)) b also) a is
