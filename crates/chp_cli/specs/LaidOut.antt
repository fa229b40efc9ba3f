-- A rule file, beside a text of its program in another layout or with other comments.
use Rattle.std.specs.Prelude.{◌≡◌, ◌≤◌, ℕ, List, length, None, Some}
use Rattle.chp_syntax.specs.Trees.{ProgramTree}
use Rattle.width_check.specs.Processes.{TypedProgram}
use Rattle.command_answers.specs.Answers.{Given, Gives}
use Rattle.command_steps.specs.Inlined.{Means}
use Rattle.command_steps.specs.References.{IsReferredTo}
use Rattle.command_steps.specs.Steps.{IsTextOf, most_of_text}
use Rattle.command_words.specs.CompileWords.{AskedCompilation}
use Rattle.program_commands.specs.Compiling.{IsFaithfulFile}
use Rattle.chp_cli.specs.Simulated.{HoldsCompiled}
use Rattle.chp_cli.specs.Unplaced.{AreLaidOutAlike}

-- the file holds a text within the limit that reads as a program, which is this one but for places
pub record HoldsLaidOut (given : Given) (file : List ℕ) (program : ProgramTree) : Type 0 where
  pub text : List ℕ
  pub tree : ProgramTree
  pub gives : Gives given file text
  pub short : length text ≤ most_of_text
  pub read : IsTextOf text tree
  pub alike : AreLaidOutAlike program tree

-- it means a program that is this one but for places
pub record MeansAlike (program plain : ProgramTree) : Type 0 where
  pub other : ProgramTree
  pub means : Means program other
  pub alike : AreLaidOutAlike plain other

-- one file is the rule file that `compile` writes for the program, and the other one holds its text
pub record AreOfOneProgram (given : Given) (net text : List ℕ) : Type 0 where
  pub program : TypedProgram
  pub compiled : HoldsCompiled given net program
  pub referred : IsReferredTo given (Some text) program

-- What `compile` wrote from a file without a buffer is so beside each file that holds this text laid out differently.
abbrev pub LaidOutsAreCompared : Type 0
LaidOutsAreCompared =
    (c : AskedCompilation) (given more : Given) (net text written : List ℕ) (is : IsFaithfulFile c given written)
    → c.buffer ≡ None → more.files net ≡ Some written → HoldsLaidOut more text is.file.program
    → AreOfOneProgram more net text
