-- What `grow` answers. It reads no file.
use Rattle.std.specs.Prelude.{◌≡◌, ℕ, Bool, true, false, List, Option, None}
use Rattle.event_sim.specs.Asking.{PickerValue}
use Rattle.program_maker.specs.Generated.{generated_text}
use Rattle.command_answers.specs.declared.answer.Ending.TheVariants.{Done}
use Rattle.command_words.specs.declared.grow_words.Growth.{Growth}
use Rattle.command_answers.specs.Answers.{Answer, writes}
use Rattle.command_steps.specs.Orders.{OrderState, Played, place_named}
use Rattle.grown_commands.specs.Summing.{AsksSum, Summarizes, summing_order}

-- the text of the program of this seed with so many stages is written
abbrev pub IsGrownText : Growth → Answer → Type 0
IsGrownText growth answer = answer ≡ writes Done (generated_text growth.seed growth.stages)

-- the text, or its summary
abbrev pub GrowsTo : (sum : Bool) → Growth → Played → Answer → Type 0
GrowsTo false growth played = IsGrownText growth
GrowsTo true growth played = Summarizes growth played

abbrev pub Grows : Growth → Played → Answer → Type 0
Grows growth played = GrowsTo growth.sum growth played

-- the place of the order that a summary asks for
abbrev pub grow_order : (sum : Bool) → List OrderState → Option ℕ
grow_order false orders = None
grow_order true orders = place_named orders summing_order

-- a summary asks it in the run that it reports
abbrev pub AsksGrown : (sum : Bool) → {P K : Type 0} → (known : P → PickerValue K) → Growth → (before after : List P) →
    Type 0
AsksGrown false known growth before after = Unit {0}
AsksGrown true known growth before after = AsksSum known growth before after
