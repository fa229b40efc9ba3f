-- What `compile` answers.
use Rattle.std.specs.Prelude.{◌≡◌, ℕ, ◌<◌, ◌≤◌, Bool, List, length, Some}
use Rattle.chp_syntax.specs.Reading.{Reads}
use Rattle.chp_syntax.specs.Shape.{IsShaped}
use Rattle.chp_syntax.specs.Trees.{ProgramTree}
use Rattle.prs_file.specs.Spelling.{NetText}
use Rattle.width_check.specs.Accepted.{IsAccepted}
use Rattle.width_check.specs.Form.{typed_form}
use Rattle.width_check.specs.Processes.{TypedProgram}
use Rattle.command_answers.specs.declared.answer.Ending.TheVariants.{Done}
use Rattle.command_answers.specs.declared.status.Status.TheVariants.{TooLarge}
use Rattle.command_answers.specs.Answers.{Given, Gives, Answer, writes, refuses}
use Rattle.command_answers.specs.Lines.{nodes_line}
use Rattle.command_steps.specs.BufferSteps.{FromBuffer, IsBuffered, KeepsPassed}
use Rattle.command_steps.specs.HeldBuffered.{IsBufferedFrom}
use Rattle.command_steps.specs.Inlined.{Means}
use Rattle.command_words.specs.CompileWords.{AskedCompilation}
use Rattle.command_steps.specs.Steps.{FromChecks, FromFile, FromProgram, IsTextOf, most_of_nodes, most_of_text}
use Rattle.program_commands.specs.Bodies.{Bodies, HasBodies, IsFaithful, counted_with, net_for}

-- what is written is the one text of the net that is made so, where that isn't too large
pub data CompilesNet (reset : Bool) {p : TypedProgram} (bodies : Bodies p) : Answer → Type 0 where
  too_large : most_of_nodes < counted_with bodies →
      CompilesNet reset bodies (refuses TooLarge (nodes_line (counted_with bodies)))
  compiled : {file : List ℕ} → counted_with bodies ≤ most_of_nodes → NetText file (net_for reset bodies) →
      CompilesNet reset bodies (writes Done file)

-- how the net is made follows from the text and the buffer
pub record CompilesForm (c : AskedCompilation) (program : ProgramTree) (p : TypedProgram) (answer : Answer) : Type 0
  where
    pub bodies : Bodies p
    pub has : HasBodies program c.buffer bodies
    pub net : CompilesNet c.reset bodies answer

-- the program that this one means is checked, and gets a buffer where one is asked for
abbrev pub CompilesProgram : AskedCompilation → ProgramTree → Answer → Type 0
CompilesProgram c program = FromChecks program (λ plain. FromBuffer plain c.buffer (CompilesForm c program))

abbrev pub Compiles : AskedCompilation → Given → Answer → Type 0
Compiles c given = FromFile given c.file most_of_text (λ text. FromProgram text (CompilesProgram c))

-- ---- what follows from that

-- A text, which is the file's where the shelf is observable, is within the limit and reads as a program, and as no
-- other one; the program that it means is accepted; and what is written is the one text of its net, or of
-- that of this program with a buffer on the channel that is named.
pub record IsFileCompiled (c : AskedCompilation) (given : Given) (written : List ℕ) : Type 0 where
  pub text : List ℕ
  pub program : ProgramTree
  pub plain : ProgramTree
  pub made : ProgramTree
  pub bodies : Bodies (typed_form made)
  pub gives : Gives given c.file text
  pub short : length text ≤ most_of_text
  pub reads : IsTextOf text program
  pub means : Means program plain
  pub accepted : IsAccepted plain
  pub buffered : IsBuffered plain c.buffer made
  pub has : HasBodies program c.buffer bodies
  pub few : counted_with bodies ≤ most_of_nodes
  pub spells : NetText written (net_for c.reset bodies)

-- what is written is the one text of the net of what the program means, with the buffer that is asked for; and this net
-- carries that, and keeps pace with it
pub record IsFaithfulTo (c : AskedCompilation) (program : ProgramTree) (written : List ℕ) : Type 0 where
  pub typed : TypedProgram
  pub bodies : Bodies typed
  pub from : IsBufferedFrom program c.buffer typed
  pub has : HasBodies program c.buffer bodies
  pub few : counted_with bodies ≤ most_of_nodes
  pub spells : NetText written (net_for c.reset bodies)
  pub faithful : IsFaithful c.reset bodies

-- What is written is the one text of the net of such a text's program, or of that with the buffer, which has the shape
-- of the grammar, and keeps what passes without the buffer; and this net carries that program, and keeps pace with it.
pub record IsFaithfulFile (c : AskedCompilation) (given : Given) (written : List ℕ) : Type 0 where
  pub file : IsFileCompiled c given written
  pub shaped : IsShaped file.made
  pub keeps : KeepsPassed file.plain c.buffer file.made
  pub faithful : IsFaithful c.reset file.bodies

-- the file holds what is to be compiled: a text within the limit that reads as a program; the one that it means is
-- accepted and can have the buffer that is asked for; and its net isn't too large then
pub record IsToCompile (c : AskedCompilation) (given : Given) : Type 0 where
  pub text : List ℕ
  pub program : ProgramTree
  pub plain : ProgramTree
  pub made : ProgramTree
  pub bodies : Bodies (typed_form made)
  pub held : given.files c.file ≡ Some text
  pub short : length text ≤ most_of_text
  pub reads : Reads text program
  pub means : Means program plain
  pub accepted : IsAccepted plain
  pub buffered : IsBuffered plain c.buffer made
  pub has : HasBodies program c.buffer bodies
  pub few : counted_with bodies ≤ most_of_nodes
