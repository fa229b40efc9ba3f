-- What one line of a script does to what was read before it.
use Rattle.std.specs.Prelude.{◌≡◌, ℕ, ◌<◌, Bool, false, List, [], length, map, slice_index_or, Some, None}
use Rattle.chp_base.specs.declared.channel.Channel.{Channel}
use Rattle.env_script.specs.declared.line.Said.{Said}
use Rattle.env_script.specs.declared.line.Line.{Line}
use Rattle.env_script.specs.declared.fault.ScriptFault.{ScriptFault}
use Rattle.env_script.specs.declared.fault.ScriptFault.TheVariants.{BadLine, NoSuchChannel}
use Rattle.env_script.specs.declared.step.Step.{Step}
use Rattle.env_script.specs.declared.step.Step.TheVariants.{Skip, Refused, Take}
use Rattle.env_script.specs.declared.step.Taken.{Taken}
use Rattle.env_script.specs.Scripts.{OfferValue}
use Rattle.env_script.specs.Offers.{offered}
use Rattle.env_script.specs.Cutting.{lines_of}
use Rattle.env_script.specs.ScriptText.{LineSays, channel_named, fault_on, offer_of, script_of, is_told, values_in, values_told, IsTold, IsScriptRefused}

abbrev pub told_at : List Bool → ℕ → Bool
told_at told place = slice_index_or told place false

-- the channel of this number is the one of the name
pub record IsPlace (channels : List Channel) (name : List ℕ) (place : ℕ) (c : Channel) : Type 0 where
  pub within : place < length channels
  pub is : (d : Channel) → slice_index_or channels place d ≡ c
  pub named : c.name ≡ name
  pub found : channel_named channels name ≡ Some c

-- why the words are refused, where the marked channels already had a line and so many values came before
pub data StepFault (channels : List Channel) (told : List Bool) (values : ℕ) (words : List (List ℕ)) : ScriptFault →
    Type 0 where
  says_nothing : 0 < length words → ((l : Line) → ¬ LineSays words l) → StepFault channels told values words BadLine
  of_nothing : (l : Line) → LineSays words l → channel_named channels l.name ≡ None →
      StepFault channels told values words NoSuchChannel
  of_channel : (l : Line) (c : Channel) (place : ℕ) {fault : ScriptFault} → LineSays words l →
      IsPlace channels l.name place c → fault_on c (told_at told place) values l.said ≡ Some fault →
      StepFault channels told values words fault

-- the words are a line without a fault, and this is what it changes
pub record IsStep (channels : List Channel) (told : List Bool) (values : ℕ) (words : List (List ℕ)) (t : Taken) : Type 0
  where
    pub line : Line
    pub channel : Channel
    pub says : LineSays words line
    pub place : IsPlace channels line.name t.place channel
    pub faultless : fault_on channel (told_at told t.place) values line.said ≡ None
    pub offer : offered t.offer ≡ offer_of channel.kind (Some line.said)
    pub count : t.values ≡ values_in channel.kind line.said

abbrev pub IsStepOf : List Channel → List Bool → ℕ → List (List ℕ) → Step → Type 0
IsStepOf channels told values words Skip = words ≡ []
IsStepOf channels told values words (Refused fault) = StepFault channels told values words fault
IsStepOf channels told values words (Take t) = IsStep channels told values words t

-- what a line that says this does on the channel, which has this number
abbrev pub IsStepOn : Channel → Bool → ℕ → ℕ → Said → Step → Type 0
IsStepOn c again values place said Skip = ⊥
IsStepOn c again values place said (Refused fault) = fault_on c again values said ≡ Some fault
IsStepOn c again values place said (Take t) = (t.place ≡ place) × (fault_on c again values said ≡ None)
    × (offered t.offer ≡ offer_of c.kind (Some said)) × (t.values ≡ values_in c.kind said)

-- what was read of the lines
pub record IsReadSoFar (channels : List Channel) (lines : List (List ℕ)) (ls : List Line) (offers : List OfferValue)
    (told : List Bool) (values : ℕ) : Type 0 where
  pub lines_told : IsTold channels lines ls
  pub made : offers ≡ script_of channels ls
  pub flags : told ≡ map (λ (c : Channel). is_told ls c.name) channels
  pub count : values ≡ values_told channels ls

-- the offers are what the lines of a script say
abbrev pub AreTold : List Channel → List (List ℕ) → List OfferValue → Type 0
AreTold channels lines offers = (ls : List Line) × IsTold channels lines ls × (offers ≡ script_of channels ls)

-- each text of these lines is refused for this cause at this line
abbrev pub IsRefusedLine : List Channel → List (List ℕ) → ScriptFault → ℕ → Type 0
IsRefusedLine channels lines fault line = (text : List ℕ) → lines ≡ lines_of text →
    IsScriptRefused channels text fault line
