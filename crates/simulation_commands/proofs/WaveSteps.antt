-- The step to a wave within `unwave`, which has at most one answer.
use Rattle.std.proofs.Common.{◌≡◌, ◌∙◌, ℕ, true, List, sym, ap, subst}
use Rattle.wave_file.specs.Waves.{WaveValue}
use Rattle.command_answers.specs.declared.status.Status.TheVariants.{BadFile}
use Rattle.command_answers.specs.Answers.{Given, Answer, refuses, OneAnswer}
use Rattle.command_answers.specs.Lines.{bad_wave_line}
use Rattle.simulation_commands.specs.Unwaving.{FromWave, no_wave, a_wave, PrintsChanges, Unwaves}
use Rattle.command_steps.proofs.OneAnswers.{file_once}

wave_once : (text : List ℕ) (Next : WaveValue → Answer → Type 0) → ((wave : WaveValue) → OneAnswer (Next wave)) → (a b : Answer) → FromWave text Next a →
    FromWave text Next b → a ≡ b
wave_once text Next next a b (no_wave {fault = f} {line = l} n) (no_wave {fault = g} {line = k} m) =
    let same = m.only f l n.cause in
    ap (λ h. refuses BadFile (bad_wave_line h l)) same.0 ∙ ap (λ i. refuses BadFile (bad_wave_line g i)) same.1
wave_once text Next next a b (no_wave n) (a_wave {wave = w} is m) = absurd (n.never w is.told)
wave_once text Next next a b (a_wave {wave = w} is n) (no_wave m) = absurd (m.never w is.told)
wave_once text Next next a b (a_wave {wave = w} is n) (a_wave {wave = v} are m) = next w a b n (subst (λ r. Next r b) (is.only v are.told) m)

pub unwaves_once : (given : Given) (file : List ℕ) → given.tells ≡ true → OneAnswer (Unwaves given file)
unwaves_once given file told = file_once given file _ _ told (λ text. wave_once text PrintsChanges (λ wave a b is are. is ∙ sym are))
