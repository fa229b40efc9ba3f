-- What is answered for a program, and maybe a script of it: how long its rounds take at most.
use Rattle.std.specs.Prelude.{◌≡◌, ◌⊎◌, ℕ, ◌*◌, ◌<◌, ◌≤◌, ◌^◌, ◌-◌, map, List, [], ◌∷◌, ◌++◌, length, Option, Some, None, codes, decimal, if◌then◌else◌, option_to_list}
use Rattle.std.specs.List.{concat}
use Rattle.chp_syntax.specs.Trees.{ProgramTree}
use Rattle.env_script.specs.Scripts.{OfferValue}
use Rattle.width_check.specs.Accepted.{IsAccepted}
use Rattle.width_check.specs.Calls.{IsCallFree}
use Rattle.width_check.specs.Form.{typed_form}
use Rattle.width_check.specs.Processes.{TypedProgram}
use Rattle.chp_meaning.specs.Ends.{CanStep}
use Rattle.chp_meaning.specs.Halves.{halved_program}
use Rattle.chp_meaning.specs.Rounds.{rounds}
use Rattle.handshake_expand.specs.Layout.{capped}
use Rattle.round_time.specs.Longest.{longest}
use Rattle.round_time.specs.Sums.{rounds_sum}
use Rattle.round_time.specs.Ways.{Way, longest_way, loops}
use Rattle.pace_bound.specs.Whereabouts.{capped_loop}
use Rattle.command_answers.specs.declared.answer.Ending.TheVariants.{Done}
use Rattle.command_answers.specs.Answers.{Given, Gives, Answer, writes}
use Rattle.command_steps.specs.Held.{HoldsScript}
use Rattle.command_steps.specs.Inlined.{Means}
use Rattle.command_steps.specs.RunSteps.{FromScript, most_of_script}
use Rattle.command_steps.specs.Steps.{FromChecks, FromFile, FromProgram, IsTextOf, most_of_text}
use Rattle.pace_command.specs.Targets.{reads_target}
use Rattle.pace_command.specs.WayTexts.{way_text, loops_text}

-- ---- a round, and rounds under a script

-- for how many moves, one behind the other, a round of the circuit with a copy for each call is proved to last at most:
-- where some assignment reads its own target, twice as many as the longest way of the program in halves
abbrev pub whole_bound : TypedProgram → ℕ
whole_bound p = if reads_target p.body then 2 * longest (halved_program p) else longest p

-- So many moves, one behind the other, are proved to be enough until that circuit has passed what n rounds pass under a
-- script: what these come to together, each by the phases of the steps before it; where some assignment reads its own
-- target, n times what any round lasts at most.
abbrev pub whole_sum : TypedProgram → (script : List OfferValue) → (n : ℕ) → ℕ
whole_sum p script n = if reads_target p.body then n * whole_bound p else rounds_sum p script n

-- So many moves are enough for the circuit that is compiled, where `whole` are with a copy for each call: as many; or
-- twice as many where the program has procedures or calls, since all calls of a procedure share one body there. Numbers
-- stop at 2^64 - 1.
pub data IsCompiled (program : ProgramTree) (whole : ℕ) : ℕ → Type 0 where
  as_it_is : IsCallFree program → IsCompiled program whole (capped whole)
  shared : ¬ IsCallFree program → IsCompiled program whole (capped (2 * whole))

-- for a round of the program, which is `plain` without procedures
abbrev pub IsBound : ProgramTree → (plain : TypedProgram) → ℕ → Type 0
IsBound program plain = IsCompiled program (whole_bound plain)

-- and for n rounds under a script
abbrev pub IsSum : ProgramTree → (plain : TypedProgram) → (script : List OfferValue) → (n : ℕ) → ℕ → Type 0
IsSum program plain script n = IsCompiled program (whole_sum plain script n)

-- the most rounds that are made
abbrev pub most_of_rounds : ℕ
most_of_rounds = 1000

-- so many rounds are made under the script: until no step is left, and no more than that
pub record AreMade (p : TypedProgram) (script : List OfferValue) (n : ℕ) : Type 0 where
  pub few : n ≤ most_of_rounds
  pub ends : n ≡ most_of_rounds ⊎ ¬ CanStep (rounds p script n)
  pub goes_on : (k : ℕ) → k < n → CanStep (rounds p script k)

-- how many are made, and what they come to
pub record RoundsSummed (program : ProgramTree) (plain : TypedProgram) (script : List OfferValue) : Type 0 where
  pub count : ℕ
  pub sum : ℕ
  pub made : AreMade plain script count
  pub sums : IsSum program plain script count sum

-- ---- what is printed

-- a line: a word and a number
abbrev pub number_line : (word : List ℕ) → ℕ → List ℕ
number_line word n = concat (word ∷ codes " " ∷ decimal n ∷ codes "\n" ∷ [])

-- a way is the longest one, if that has fewer than 2^64 - 1 moves
abbrev pub IsLongestIfCounted : TypedProgram → Way → Type 0
IsLongestIfCounted p way = longest p < 2 ^ 64 - 1 → way ≡ longest_way p

-- the lines of a program
abbrev pub pace_text : TypedProgram → (bound : ℕ) → Way → List ℕ
pace_text p bound way = concat (
    number_line (codes "round") (capped (longest p)) ∷ number_line (codes "bound") bound
    ∷ way_text way ∷ loops_text (map capped_loop (loops p)) ∷ [])

-- and two more under a script
abbrev pub sum_text : (rounds sum : ℕ) → List ℕ
sum_text rounds sum = number_line (codes "rounds") rounds ++ number_line (codes "sum") sum

-- the text for the program that is meant, and behind it this
pub record PaceReport (program : ProgramTree) (plain : TypedProgram) (more : List ℕ) (answer : Answer) : Type 0 where
  pub bound : ℕ
  pub bounds : IsBound program plain bound
  pub way : Way
  pub lies : IsLongestIfCounted plain way
  pub told : answer ≡ writes Done (pace_text plain bound way ++ more)

-- the text for it and its script
pub record SumReport (program : ProgramTree) (plain : TypedProgram) (script : List OfferValue) (answer : Answer) :
    Type 0 where
  pub of : RoundsSummed program plain script
  pub report : PaceReport program plain (sum_text of.count of.sum) answer

-- ---- what is answered

-- the names of the files: of a program, and maybe of a script
pub record AskedPace : Type 0 where
  pub file : List ℕ
  pub script : Option (List ℕ)

abbrev pub files_of : AskedPace → List (List ℕ)
files_of asked = asked.file ∷ option_to_list asked.script

-- for an accepted program, once the script that is named has been read
abbrev pub PacesUnder : Given → (script : Option (List ℕ)) → ProgramTree → TypedProgram → Answer → Type 0
PacesUnder given None program plain = PaceReport program plain []
PacesUnder given (Some file) program plain = FromFile given file most_of_script
    (λ text. FromScript plain.channels text (SumReport program plain))

abbrev pub PacesProgram : Given → (script : Option (List ℕ)) → ProgramTree → Answer → Type 0
PacesProgram given script program = FromChecks program (λ plain. PacesUnder given script program (typed_form plain))

abbrev pub Paces : Given → AskedPace → Answer → Type 0
Paces given asked = FromFile given asked.file most_of_text
    (λ text. FromProgram text (PacesProgram given asked.script))

-- ---- what it says of the files

-- where a script is named, the file holds a script of the program, and this is what its rounds come to under that
pub data SummedIf (given : Given) (program : ProgramTree) (plain : TypedProgram) : (file : Option (List ℕ)) → Type 0
  where
    unscripted : SummedIf given program plain None
    scripted : {file : List ℕ} {script : List OfferValue} → HoldsScript given file plain.channels script →
        RoundsSummed program plain script → SummedIf given program plain (Some file)

-- its two lines
abbrev pub sum_lines : {given : Given} {program : ProgramTree} {plain : TypedProgram} {file : Option (List ℕ)} →
    SummedIf given program plain file → List ℕ
sum_lines unscripted = []
sum_lines (scripted holds of) = sum_text of.count of.sum

-- the first file holds a program, the one that it means is accepted, and this is the text for that and for the script
-- that is named
pub record IsPaceOf (given : Given) (asked : AskedPace) (output : List ℕ) : Type 0 where
  pub text : List ℕ
  pub program : ProgramTree
  pub plain : ProgramTree
  pub gives : Gives given asked.file text
  pub short : length text ≤ most_of_text
  pub read : IsTextOf text program
  pub means : Means program plain
  pub accepted : IsAccepted plain
  pub bound : ℕ
  pub bounds : IsBound program (typed_form plain) bound
  pub way : Way
  pub lies : IsLongestIfCounted (typed_form plain) way
  pub under : SummedIf given program (typed_form plain) asked.script
  pub told : output ≡ pace_text (typed_form plain) bound way ++ sum_lines under
