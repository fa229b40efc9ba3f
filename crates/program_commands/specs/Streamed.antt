-- What is said of the streamers of rule files.
use Rattle.std.specs.Prelude.{◌≡◌, ℕ, ◌<◌, ◌≤◌, Bool, List}
use Rattle.chp_syntax.specs.Trees.{ProgramTree}
use Rattle.call_compose.specs.Inlined.{AreInlined}
use Rattle.prs_file.specs.Spelling.{NetText}
use Rattle.width_check.specs.Processes.{TypedProgram}
use Rattle.command_steps.specs.Steps.{most_of_nodes}
use Rattle.program_commands.specs.Bodies.{Bodies, IsFaithful, counted_with, net_for, shared}

-- the text is that of the net that is made so, which isn't too large, and carries its program
pub record IsTextWith (reset : Bool) {p : TypedProgram} (bodies : Bodies p) (text : List ℕ) : Type 0 where
  pub few : counted_with bodies ≤ most_of_nodes
  pub spells : NetText text (net_for reset bodies)
  pub faithful : IsFaithful reset bodies

-- it is too large, and counts so many nodes
pub record IsOver {p : TypedProgram} (bodies : Bodies p) (count : ℕ) : Type 0 where
  pub is : count ≡ counted_with bodies
  pub many : most_of_nodes < counted_with bodies

-- the same of the net in which all calls of a procedure share one body
abbrev pub IsSharedText : (reset : Bool) → ProgramTree → TypedProgram → (text : List ℕ) → Type 0
IsSharedText reset program p text = (h : AreInlined program p) × IsTextWith reset (shared h) text

abbrev pub IsSharedOver : ProgramTree → TypedProgram → (count : ℕ) → Type 0
IsSharedOver program p count = (h : AreInlined program p) × IsOver (shared h) count
