-- The program with which a run is compared: the step by itself.
use Rattle.std.proofs.Common.{◌≡◌, ℕ, List, [], ◌∷◌, Option, Some, None, refl, sym, subst, arith}
use Rattle.std.specs.Prelude.{option_to_list}
use Rattle.width_check.specs.Form.{typed_form}
use Rattle.width_check.specs.Processes.{TypedProgram}
use Rattle.command_answers.specs.declared.answer.Ending.{Ending}
use Rattle.command_answers.specs.declared.answer.Stop.{Stop}
use Rattle.command_answers.specs.Answers.{Given, Answer, writes}
use Rattle.command_steps.specs.HeldPrograms.{HoldsProgram}
use Rattle.command_steps.specs.References.{FromReference, HoldsReference}
use Rattle.command_answers.specs.Replies.{Stops}
use Rattle.command_steps.specs.Inlined.{IsFormOf}
use Rattle.command_steps.specs.Steps.{FromFile, FromProgram, accepted, a_file, a_program, Never, most_of_text}
use Rattle.command_steps.proofs.BufferStopping.{OnlyChecks, checks_as, program_as}
use Rattle.command_steps.proofs.RunStopping.{file_as}
use Rattle.command_steps.proofs.Stopping.{stops_in}

module _ (given : Given) (Next : Option TypedProgram → Answer → Type 0) where
  pub reference_goes : (file : Option (List ℕ)) (a : Answer) → FromReference given file Never a → FromReference given file Next a
  reference_goes None a never = absurd never
  reference_goes (Some file) a is = file_as (λ text there. program_as (λ tree so. checks_as (λ plain never. absurd never) so) there) is

  -- what was read goes on
  pub reference_answers : (file : Option (List ℕ)) (p : Option TypedProgram) (a : Answer) → HoldsReference given file p → Next p a →
      FromReference given file Next a
  reference_answers None None a holds is = is
  reference_answers None (Some p) a holds is = absurd holds
  reference_answers (Some file) None a holds is = absurd holds
  reference_answers (Some file) (Some p) a holds is =
      let form = holds.is.is in
      a_file holds.gives holds.short (a_program holds.is.read (accepted form.means form.accepted (subst (λ q. Next (Some q) a) form.form is)))

  -- where something is written, it was read
  pub reference_read : (file : Option (List ℕ)) (end : Ending) (text : List ℕ) → FromReference given file Next (writes end text) →
      (p : Option TypedProgram) × HoldsReference given file p × Next p (writes end text)
  reference_read None end text is = (None, tt, is)
  reference_read (Some file) end text (a_file {text = x} gives short (a_program {program = tree} read (accepted {plain = plain} means are is))) =
      let form : IsFormOf tree (typed_form plain) = record { plain = plain; means = means; accepted = are; form = refl } in
      (Some (typed_form plain), record { text = x; gives = gives; short = short; is = record { tree = tree; read = read; is = form } }, is)

-- the file that is named holds a program, or is refused
pub reference_is : (given : Given) (file : Option (List ℕ)) (name : List ℕ) (p : TypedProgram) → file ≡ Some name → HoldsProgram given name p →
    HoldsReference given file (Some p)
reference_is given file name p is holds = subst (λ f. HoldsReference given f (Some p)) (sym is) holds

pub no_reference : (given : Given) (file : Option (List ℕ)) → file ≡ None → HoldsReference given file None
no_reference given file is = subst (λ f. HoldsReference given f None) (sym is) tt

pub reference_fails : (given : Given) (file : Option (List ℕ)) (name : List ℕ) → file ≡ Some name → (before after : ℕ) (stop : Stop) →
    Stops (FromFile given name most_of_text (λ text. FromProgram text OnlyChecks)) (name ∷ []) given before after stop
    → Stops (FromReference given file Never) (option_to_list file) given before after stop
reference_fails given file name is before after stop stops =
    subst (λ f. Stops (FromReference given f Never) (option_to_list f) given before after stop) (sym is)
    (stops_in (FromFile given name most_of_text (λ text. FromProgram text OnlyChecks)) (FromReference given (Some name) Never)
    (λ answer there. file_as (λ text read. program_as (λ tree so. checks_as (λ plain never. absurd never) so) read) there) (name ∷ [])
    (name ∷ []) given before before
    after (λ one own. own) (omega arith) stop stops)
