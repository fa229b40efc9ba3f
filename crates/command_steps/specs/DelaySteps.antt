-- Steps from a text or a file to the delays of a net's nodes.
use Rattle.std.specs.Prelude.{◌≡◌, ℕ, ◌≤◌, List, length, Option, Some, None}
use Rattle.delay_script.specs.declared.fault.DelayFault.{DelayFault}
use Rattle.delay_script.specs.DelayTables.{DelayTable, unit_delays}
use Rattle.delay_script.specs.DelayText.{IsDelayText, IsOnlyDelays, IsNoDelayText, IsDelayRefused, IsOnlyDelayRefusal}
use Rattle.command_answers.specs.declared.status.Status.TheVariants.{BadFile}
use Rattle.command_answers.specs.Answers.{Given, Gives, Answer, refuses}
use Rattle.command_answers.specs.Lines.{bad_delays_line}
use Rattle.command_steps.specs.Steps.{FromFile}

-- ---- from a text to delays

-- the most bytes of a delay file
abbrev pub most_of_delays : ℕ
most_of_delays = 4194304

-- the text gives these delays for the nodes of these names, and no other ones
pub record AreDelaysOf (names : List (List ℕ)) (text : List ℕ) (delays : DelayTable) : Type 0 where
  pub told : IsDelayText names text delays
  pub only : IsOnlyDelays names text delays

-- the text gives no delays for them, for this cause at this line, and for no other
pub record IsNoDelaysOf (names : List (List ℕ)) (text : List ℕ) (fault : DelayFault) (line : ℕ) : Type 0 where
  pub never : IsNoDelayText names text
  pub cause : IsDelayRefused names text fault line
  pub only : IsOnlyDelayRefusal names text fault line

-- it reads the text as delays of these nodes
pub data FromDelays (names : List (List ℕ)) (text : List ℕ) (Next : DelayTable → Answer → Type 0) : Answer → Type 0
  where
    delays_refused : {fault : DelayFault} {line : ℕ} → IsNoDelaysOf names text fault line →
        FromDelays names text Next (refuses BadFile (bad_delays_line fault line))
    delays_read : {delays : DelayTable} {answer : Answer} → AreDelaysOf names text delays → Next delays answer →
        FromDelays names text Next answer

-- what was read there: the delays that the file holds, within its limit
pub record HoldsDelays (given : Given) (file : List ℕ) (names : List (List ℕ)) (delays : DelayTable) : Type 0 where
  pub text : List ℕ
  pub gives : Gives given file text
  pub short : length text ≤ most_of_delays
  pub is : AreDelaysOf names text delays

-- where a file is named, it reads the delays in it; else each delay is 1
abbrev pub FromDelayFile : Given → (file : Option (List ℕ)) → (names : List (List ℕ)) →
    (Next : DelayTable → Answer → Type 0) → Answer → Type 0
FromDelayFile given None names Next = Next (unit_delays (length names))
FromDelayFile given (Some file) names Next = FromFile given file most_of_delays (λ text. FromDelays names text Next)

-- these are the delays that it goes on with
abbrev pub HoldsDelayFile : Given → (file : Option (List ℕ)) → (names : List (List ℕ)) → DelayTable → Type 0
HoldsDelayFile given None names delays = delays ≡ unit_delays (length names)
HoldsDelayFile given (Some file) names delays = HoldsDelays given file names delays
