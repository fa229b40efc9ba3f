-- Steps of the call by themselves and within it.
use Rattle.std.proofs.Common.{ℕ, zero, suc, ◌≤◌, List, [], ◌∷◌, Some, Result, arith}
use Rattle.std.specs.Prelude.{Contains, IfErr}
use Rattle.chp_syntax.specs.Trees.{ProgramTree}
use Rattle.env_script.specs.Scripts.{OfferValue}
use Rattle.width_check.specs.Processes.{TypedProgram}
use Rattle.command_answers.specs.declared.answer.Stop.{Stop}
use Rattle.command_answers.specs.Answers.{Given, Answer}
use Rattle.command_answers.specs.Replies.{Stops}
use Rattle.command_steps.specs.Held.{HoldsScript}
use Rattle.command_steps.specs.RunSteps.{FromScript, a_script, most_of_script}
use Rattle.command_steps.specs.Steps.{FromFile, a_file, Never}
use Rattle.command_steps.proofs.RunStopping.{file_as, script_goes}
use Rattle.command_steps.proofs.Stopping.{err_in, stops_in}
use Rattle.pace_command.specs.Pacing.{PacesUnder, SumReport}

-- ---- what stops a step stops the one that it is a part of

pub head_file : (file : List ℕ) (rest : List (List ℕ)) (name : List ℕ) → Contains (file ∷ []) name → Contains (file ∷ rest) name
head_file file rest name (zero, within, is) = (0, omega arith, is)
head_file file rest name (suc k, within, is) = absurd (omega (arith, within))

pub rest_file : (file : List ℕ) (rest : List (List ℕ)) (name : List ℕ) → Contains rest name → Contains (file ∷ rest) name
rest_file file rest name (k, within, is) = (suc k, omega (arith, within), is)

module _ (I J : Answer → Type 0) (is : (a : Answer) → I a → J a) (given : Given) (before after : ℕ) where
  pub stops_as : (files : List (List ℕ)) {T : Type 0} (r : Result T Stop) → IfErr r (Stops I files given before after) →
      IfErr r (Stops J files given before after)
  stops_as files r = err_in r (Stops I files given before after) (Stops J files given before after)
      (stops_in I J is files files given before before after (λ name own. own) (omega arith))

  -- of a call that began earlier, and has read another file before
  pub stops_behind : (file : List ℕ) (rest : List (List ℕ)) (first : ℕ) → first ≤ before → {T : Type 0} (r : Result T Stop)
      → IfErr r (Stops I rest given before after) → IfErr r (Stops J (file ∷ rest) given first after)
  stops_behind file rest first early r = err_in r (Stops I rest given before after) (Stops J (file ∷ rest) given first after)
      (stops_in I J is rest (file ∷ rest) given first before after (rest_file file rest) early)

-- ---- the script of an accepted program

module _ (given : Given) (file : List ℕ) (program : ProgramTree) (plain : TypedProgram) where
  pub script_stopped : (before after : ℕ) (stop : Stop)
      → Stops (FromFile given file most_of_script (λ text. FromScript plain.channels text Never)) (file ∷ []) given before after stop
      → Stops (PacesUnder given (Some file) program plain) (file ∷ []) given before after stop
  script_stopped before after stop stops =
      stops_in (FromFile given file most_of_script (λ text. FromScript plain.channels text Never)) (PacesUnder given (Some file) program plain)
      (λ answer is. file_as (λ text there. script_goes there) is) (file ∷ []) (file ∷ []) given before before after (λ name own. own) (omega arith) stop stops

  pub under_script : (script : List OfferValue) → HoldsScript given file plain.channels script → (a : Answer) → SumReport program plain script a
      → PacesUnder given (Some file) program plain a
  under_script script holds a is = a_file holds.gives holds.short (a_script holds.is is)
