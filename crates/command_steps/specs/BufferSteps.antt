-- The step that puts a buffer on a channel of a program, where one is asked for.
use Rattle.std.specs.Prelude.{◌≡◌, ℕ, List, Option, Some, None}
use Rattle.chp_syntax.specs.Trees.{ProgramTree}
use Rattle.slack_buffer.specs.BufferedTrees.{HasBuffer, IsInnerChannel, IsRightBuffer}
use Rattle.width_check.specs.Form.{typed_form}
use Rattle.width_check.specs.Processes.{TypedProgram}
use Rattle.command_answers.specs.declared.status.Status.TheVariants.{NoChannel}
use Rattle.command_answers.specs.Answers.{Given, Answer, refuses}
use Rattle.command_answers.specs.Lines.{no_channel_line}
use Rattle.command_steps.specs.Steps.{FromFile, FromProgram, FromChecks, most_of_text}

-- the second program is the first one with a buffer on a channel inside of it
pub record PutsBuffer (program : ProgramTree) (chan : List ℕ) (made : ProgramTree) : Type 0 where
  pub inner : IsInnerChannel program.decls chan
  pub buffer : HasBuffer program chan made

-- the program as it is, or with a buffer on the channel that is named
abbrev pub IsBuffered : ProgramTree → (chan : Option (List ℕ)) → (made : ProgramTree) → Type 0
IsBuffered program None made = made ≡ program
IsBuffered program (Some chan) made = PutsBuffer program chan made

-- with a buffer it keeps what it passed without
abbrev pub KeepsPassed : ProgramTree → (chan : Option (List ℕ)) → (made : ProgramTree) → Type 0
KeepsPassed program None made = Unit {0}
KeepsPassed program (Some chan) made =
    (buffer : HasBuffer program chan made) → IsRightBuffer program chan made buffer.number

-- the name that is given must be that of a channel inside of the program; it continues with the program so buffered
pub data FromBuffer (program : ProgramTree) (chan : Option (List ℕ)) (Next : TypedProgram → Answer → Type 0) :
    Answer → Type 0 where
  no_channel : {name : List ℕ} → chan ≡ Some name → ¬ IsInnerChannel program.decls name →
      FromBuffer program chan Next (refuses NoChannel (no_channel_line name))
  has_channel : (made : ProgramTree) {answer : Answer} → IsBuffered program chan made → KeepsPassed program chan made →
      Next (typed_form made) answer → FromBuffer program chan Next answer

-- from the name of a file to the accepted program that its text means, with a buffer on the channel that is named
abbrev pub FromProgramFile : Given → (file : List ℕ) → (chan : Option (List ℕ)) → (TypedProgram → Answer → Type 0) →
    Answer → Type 0
FromProgramFile given file chan Next = FromFile given file most_of_text
    (λ text. FromProgram text (λ program. FromChecks program (λ plain. FromBuffer plain chan Next)))
