-- Steps of `run` by themselves and within it.
use Rattle.std.proofs.Common.{ℕ, zero, suc, ◌≤◌, List, [], ◌∷◌, arith}
use Rattle.std.specs.Prelude.{Contains}
use Rattle.env_script.specs.Scripts.{OfferValue}
use Rattle.width_check.specs.Processes.{TypedProgram}
use Rattle.command_answers.specs.declared.answer.Stop.{Stop}
use Rattle.command_answers.specs.Answers.{Given, Answer}
use Rattle.command_steps.specs.Held.{HoldsScript}
use Rattle.command_steps.specs.BufferSteps.{FromProgramFile}
use Rattle.command_steps.specs.HeldBuffered.{HoldsBuffered}
use Rattle.command_answers.specs.Replies.{Halts, Stops}
use Rattle.round_commands.specs.RoundsReporting.{ReportsRounds, RunsProgram, Runs}
use Rattle.command_words.specs.RoundsWords.{AskedRounds}
use Rattle.command_steps.specs.RunSteps.{FromScript, a_script, most_of_script}
use Rattle.command_steps.specs.Steps.{FromFile, a_file, Never}
use Rattle.command_steps.proofs.BufferStopping.{buffered_on, buffered_stopped}
use Rattle.command_steps.proofs.RunStopping.{file_as, script_goes}
use Rattle.command_steps.proofs.Stopping.{stops_in, stops_where}

first_of_two : (a b name : List ℕ) → Contains (a ∷ []) name → Contains (a ∷ b ∷ []) name
first_of_two a b name (zero, within, is) = (0, omega arith, is)
first_of_two a b name (suc k, within, is) = absurd (omega arith)

second_of_two : (a b name : List ℕ) → Contains (b ∷ []) name → Contains (a ∷ b ∷ []) name
second_of_two a b name (zero, within, is) = (1, omega arith, is)
second_of_two a b name (suc k, within, is) = absurd (omega arith)

module _ (r : AskedRounds) (given : Given) where
  pub program_stopped : (before after : ℕ) (stop : Stop) → Stops (FromProgramFile given r.file r.buffer Never) (r.file ∷ []) given before after stop →
      Stops (Runs r given) (r.file ∷ r.script ∷ []) given before after stop
  program_stopped before after stop stops =
      buffered_stopped given r.file r.buffer (RunsProgram r given) (r.file ∷ r.script ∷ []) (λ name own. first_of_two r.file r.script name own) before after
      stop stops

  module _ (program : TypedProgram) (holds : HoldsBuffered given r.file r.buffer program) where
    -- the command goes on with the script
    goes_on : (a : Answer) → RunsProgram r given program a → Runs r given a
    goes_on a is = buffered_on given r.file r.buffer (RunsProgram r given) program holds a is

    pub script_stopped : (first before after : ℕ) → first ≤ before → (stop : Stop) →
        Stops (FromFile given r.script most_of_script (λ words. FromScript program.channels words Never)) (r.script ∷ []) given before after stop
        → Stops (Runs r given) (r.file ∷ r.script ∷ []) given first after stop
    script_stopped first before after early stop stops =
        stops_in (FromFile given r.script most_of_script (λ words. FromScript program.channels words Never)) (Runs r given)
        (λ answer is. goes_on answer (file_as (λ words there. script_goes there) is))
        (r.script ∷ []) (r.file ∷ r.script ∷ []) given first before after (λ name own. second_of_two r.file r.script name own) early stop stops

    module _ (script : List OfferValue) (told : HoldsScript given r.script program.channels script) where
      pub reports : (a : Answer) → ReportsRounds program script r.rounds a → Runs r given a
      reports a is = goes_on a (a_file told.gives told.short (a_script told.is is))

      pub report_stopped : (before after : ℕ) (stop : Stop) → Halts (ReportsRounds program script r.rounds) stop →
          Stops (Runs r given) (r.file ∷ r.script ∷ []) given before after stop
      report_stopped before after stop halts =
          stops_where (ReportsRounds program script r.rounds) (Runs r given) (λ answer is. reports answer is) (r.file ∷ r.script ∷ []) given before after stop
          halts
