-- The program with which a run is compared.
use Rattle.std.specs.Prelude.{◌≡◌, ℕ, ◌≤◌, List, length, Option, Some, None}
use Rattle.chp_syntax.specs.Reading.{Reads}
use Rattle.chp_syntax.specs.Trees.{ProgramTree}
use Rattle.width_check.specs.Accepted.{IsAccepted}
use Rattle.width_check.specs.Form.{typed_form}
use Rattle.width_check.specs.Processes.{TypedProgram}
use Rattle.command_answers.specs.Answers.{Given, Answer}
use Rattle.command_steps.specs.HeldPrograms.{HoldsProgram}
use Rattle.command_steps.specs.Inlined.{Means}
use Rattle.command_steps.specs.Steps.{FromFile, FromProgram, FromChecks, most_of_text}

-- where a file is named, it reads and checks the program in it
abbrev pub FromReference : Given → (file : Option (List ℕ)) → (Next : Option TypedProgram → Answer → Type 0) → Answer →
    Type 0
FromReference given None Next = Next None
FromReference given (Some file) Next = FromFile given file most_of_text
    (λ text. FromProgram text (λ tree. FromChecks tree (λ plain. Next (Some (typed_form plain)))))

-- what was read there: the accepted program that the file holds, or none where no file is named
abbrev pub HoldsReference : Given → (file : Option (List ℕ)) → Option TypedProgram → Type 0
HoldsReference given None None = Unit {0}
HoldsReference given (Some file) (Some p) = HoldsProgram given file p
HoldsReference given _ _ = ⊥

-- the file that is named, if one is, is to hold this program
abbrev pub IsReferredTo : Given → (file : Option (List ℕ)) → TypedProgram → Type 0
IsReferredTo given None p = Unit {0}
IsReferredTo given (Some file) p = HoldsProgram given file p

-- the file holds the text of a program within its limit, and the one that it means is accepted
pub record HoldsAccepted (given : Given) (file : List ℕ) : Type 0 where
  pub text : List ℕ
  pub program : ProgramTree
  pub plain : ProgramTree
  pub held : given.files file ≡ Some text
  pub short : length text ≤ most_of_text
  pub reads : Reads text program
  pub means : Means program plain
  pub accepted : IsAccepted plain

abbrev pub IsToReferTo : Given → (file : Option (List ℕ)) → Type 0
IsToReferTo given None = Unit {0}
IsToReferTo given (Some file) = HoldsAccepted given file
