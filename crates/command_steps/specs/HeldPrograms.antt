-- The accepted program that a file holds.
use Rattle.std.specs.Prelude.{ℕ, ◌≤◌, List, length}
use Rattle.chp_syntax.specs.Trees.{ProgramTree}
use Rattle.width_check.specs.Processes.{TypedProgram}
use Rattle.command_answers.specs.Answers.{Given, Gives}
use Rattle.command_steps.specs.Inlined.{IsFormOf}
use Rattle.command_steps.specs.Steps.{IsTextOf, most_of_text}

-- the text reads as a program; the one that it means is accepted, and this is its typed form
pub record IsProgramOf (text : List ℕ) (program : TypedProgram) : Type 0 where
  pub tree : ProgramTree
  pub read : IsTextOf text tree
  pub is : IsFormOf tree program

-- the text of this program, within its limit
pub record HoldsProgram (given : Given) (file : List ℕ) (program : TypedProgram) : Type 0 where
  pub text : List ℕ
  pub gives : Gives given file text
  pub short : length text ≤ most_of_text
  pub is : IsProgramOf text program
