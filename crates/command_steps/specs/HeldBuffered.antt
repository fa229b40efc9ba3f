-- The program with which a command continues, whose file holds an accepted one.
use Rattle.std.specs.Prelude.{◌≡◌, ℕ, ◌≤◌, List, length, Option}
use Rattle.chp_syntax.specs.Shape.{IsShaped}
use Rattle.chp_syntax.specs.Trees.{ProgramTree}
use Rattle.width_check.specs.Accepted.{IsAccepted}
use Rattle.width_check.specs.Form.{typed_form}
use Rattle.width_check.specs.Processes.{TypedProgram}
use Rattle.command_answers.specs.Answers.{Given, Gives}
use Rattle.command_steps.specs.BufferSteps.{IsBuffered, KeepsPassed}
use Rattle.command_steps.specs.Inlined.{Means}
use Rattle.command_steps.specs.Steps.{IsTextOf, most_of_text}

-- this is the typed form of the program, or of the program with a buffer on the channel that is named, which has the
-- shape of the grammar and keeps what the first one passes
pub record IsBufferedForm (tree : ProgramTree) (chan : Option (List ℕ)) (program : TypedProgram) : Type 0 where
  pub made : ProgramTree
  pub buffered : IsBuffered tree chan made
  pub keeps : KeepsPassed tree chan made
  pub shaped : IsShaped made
  pub form : program ≡ typed_form made

-- the program that the tree means is accepted, and this is its typed form so buffered
pub record IsBufferedFrom (tree : ProgramTree) (chan : Option (List ℕ)) (program : TypedProgram) : Type 0 where
  pub plain : ProgramTree
  pub means : Means tree plain
  pub accepted : IsAccepted plain
  pub is : IsBufferedForm plain chan program

-- the text reads as a program of which that holds
pub record IsBufferedOf (text : List ℕ) (chan : Option (List ℕ)) (program : TypedProgram) : Type 0 where
  pub tree : ProgramTree
  pub read : IsTextOf text tree
  pub from : IsBufferedFrom tree chan program

-- the text of this program, within its limit
pub record HoldsBuffered (given : Given) (file : List ℕ) (chan : Option (List ℕ)) (program : TypedProgram) : Type 0
  where
    pub text : List ℕ
    pub gives : Gives given file text
    pub short : length text ≤ most_of_text
    pub is : IsBufferedOf text chan program
