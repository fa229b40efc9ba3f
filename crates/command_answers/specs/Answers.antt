-- What a command's result depends on, and what it answers. Nothing here knows a command.
use Rattle.std.specs.Prelude.{◌≡◌, ℕ, Bool, true, List, [], Option, Some, None}
use Rattle.command_answers.specs.declared.answer.Ending.{Ending}
use Rattle.command_answers.specs.declared.answer.Ending.TheVariants as ending
use Rattle.command_answers.specs.declared.status.Status.{Status}
use Rattle.command_answers.specs.declared.status.Status.TheVariants as statuses
use Rattle.command_answers.specs.Lines.{differs_line, hazard_found_line}

-- whether the shelf's bytes are observable, and what it holds under each name
pub record Given : Type 0 where
  pub tells : Bool
  pub files : List ℕ → Option (List ℕ)

abbrev pub given_by : Bool → (List ℕ → Option (List ℕ)) → Given
given_by tells files = record { tells = tells; files = files }

-- this text may be read under this name: if the shelf's bytes are observable, only what it holds
abbrev pub Gives : Given → (name text : List ℕ) → Type 0
Gives given name text = given.tells ≡ true → given.files name ≡ Some text

-- the shelf's bytes are observable, and it has no file of this name
pub record Lacks (given : Given) (name : List ℕ) : Type 0 where
  pub told : given.tells ≡ true
  pub none : given.files name ≡ None

-- a text that is written whole before the command ends so; a refusal, with its status and its line; or that a file
-- isn't there
pub data Answer : Type 0 where
  writes : Ending → (text : List ℕ) → Answer
  refuses : Status → (line : List ℕ) → Answer
  misses : (name : List ℕ) → Answer

abbrev pub status_with : Ending → Status
status_with ending.Done = statuses.Done
status_with ending.Hazard = statuses.Hazard
status_with ending.Differs = statuses.Differs

-- the line that is said then
abbrev pub line_with : Ending → List ℕ
line_with ending.Done = []
line_with ending.Hazard = hazard_found_line
line_with ending.Differs = differs_line

-- the status of a command that answers so, where nothing fails
abbrev pub status_of : Answer → Status
status_of (writes end text) = status_with end
status_of (refuses status line) = status
status_of (misses name) = statuses.Read

-- what it writes then
abbrev pub text_of : Answer → List ℕ
text_of (writes end text) = text
text_of (refuses status line) = []
text_of (misses name) = []

-- there is at most one answer
abbrev pub OneAnswer : (Answer → Type 0) → Type 0
OneAnswer IsAnswer = (a b : Answer) → IsAnswer a → IsAnswer b → a ≡ b
