-- A program that was checked in place of the one that means it.
use Rattle.std.proofs.Common.{◌≡◌, ℕ, List, Option, subst}
use Rattle.std.specs.Prelude.{Result, Ok, Err, IfOk, IfErr, OnOk}
use Rattle.chp_syntax.specs.Shape.{IsShaped}
use Rattle.chp_syntax.specs.Trees.{ProgramTree}
use Rattle.width_check.specs.Accepted.{IsAccepted}
use Rattle.width_check.specs.Calls.{IsCallFree}
use Rattle.width_check.specs.Form.{typed_form}
use Rattle.width_check.specs.Processes.{TypedProgram}
use Rattle.command_answers.specs.declared.answer.Stop.{Stop}
use Rattle.command_answers.specs.Answers.{Answer}
use Rattle.command_answers.specs.Replies.{Halts}
use Rattle.command_steps.specs.HeldBuffered.{IsBufferedFrom}
use Rattle.command_steps.specs.Inlined.{AreShaped, IsFormOf, Means}
use Rattle.command_steps.specs.Steps.{FromChecks}
use Rattle.command_steps.proofs.BufferStopping.{meant_checks}
use Rattle.command_steps.proofs.OneMeaning.{means_itself, means_once}
use Rattle.command_steps.proofs.Stopping.{err_in, halts_in}
use Rattle.command_words.proofs.Results.{ok_in}

module _ {T E : Type 0} (typed : T → TypedProgram) (tree plain : ProgramTree) (means : Means tree plain) where
  pub form_made : (r : Result T E) → OnOk r (IsAccepted plain) → IfOk r (λ t. typed t ≡ typed_form plain) → IfOk r (λ t. IsFormOf tree (typed t))
  form_made (Ok t) is form = record { plain = plain; means = means; accepted = is; form = form }
  form_made (Err e) is form = tt

  -- what was made of a program without calls was made of each one that means it
  pub buffered_as : (free : IsCallFree plain) (chan : Option (List ℕ)) (r : Result T E) → IfOk r (λ t. IsBufferedFrom plain chan (typed t)) →
      IfOk r (λ t. IsBufferedFrom tree chan (typed t))
  buffered_as free chan r = ok_in r (λ t. IsBufferedFrom plain chan (typed t)) (λ t. IsBufferedFrom tree chan (typed t))
      (λ t is. record { plain = is.plain; means = meant is.plain is.means; accepted = is.accepted; is = is.is })
    where
      meant : (other : ProgramTree) → Means plain other → Means tree other
      meant other itself = subst (λ (p : ProgramTree). Means tree p) (means_itself free itself) means

-- what is meant has the shape of the grammar, where one that is meant has it
pub shaped_as : {T E : Type 0} (tree plain : ProgramTree) → Means tree plain → IsShaped plain → (r : Result T E) → OnOk r (AreShaped (Means tree))
shaped_as tree plain means shaped (Ok t) = λ other also. subst IsShaped (means_once means also) shaped
shaped_as tree plain means shaped (Err e) = tt

pub checks_for : {T : Type 0} (tree plain : ProgramTree) → Means tree plain → IsCallFree plain → (Next : ProgramTree → Answer → Type 0) (r : Result T Stop) →
    IfErr r (Halts (FromChecks plain Next)) → IfErr r (Halts (FromChecks tree Next))
checks_for tree plain means free Next r =
    err_in r (Halts (FromChecks plain Next)) (Halts (FromChecks tree Next))
    (halts_in (FromChecks plain Next) (FromChecks tree Next) (λ answer is. meant_checks means free is))
