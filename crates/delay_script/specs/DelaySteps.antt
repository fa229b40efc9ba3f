-- What one line of a delay file does to what was read before it.
use Rattle.std.specs.Prelude.{◌≡◌, ℕ, ◌<◌, Bool, true, false, List, [], length, map, slice_index_or, Contains}
use Rattle.delay_script.specs.declared.line.DelayLine.{DelayLine}
use Rattle.delay_script.specs.declared.fault.DelayFault.{DelayFault}
use Rattle.delay_script.specs.declared.fault.DelayFault.TheVariants.{BadLine, UnknownNode, TooLarge, DoubleNode}
use Rattle.delay_script.specs.declared.step.DelayStep.{DelayStep}
use Rattle.delay_script.specs.declared.step.DelayStep.TheVariants.{Skip, Refused, Take}
use Rattle.delay_script.specs.declared.step.TakenDelay.{TakenDelay}
use Rattle.delay_script.specs.NameTables.{IsNodePlace}
use Rattle.delay_script.specs.DelayText.{SaysDelays, IsQuick, has_line, rise_said, fall_said, AreDelaysTold}

abbrev pub marked_at : List Bool → ℕ → Bool
marked_at marks place = slice_index_or marks place false

-- why the words are refused, where these nodes had a line
pub data DelayStepFault (names : List (List ℕ)) (marks : List Bool) (words : List (List ℕ)) : DelayFault → Type 0 where
  says_no_delays : 0 < length words → ((l : DelayLine) → ¬ SaysDelays words l) →
      DelayStepFault names marks words BadLine
  of_no_node : (l : DelayLine) → SaysDelays words l → ¬ Contains names l.node →
      DelayStepFault names marks words UnknownNode
  of_marked : (l : DelayLine) (place : ℕ) → SaysDelays words l → IsNodePlace names l.node place →
      marked_at marks place ≡ true → DelayStepFault names marks words DoubleNode
  of_slow : (l : DelayLine) (place : ℕ) → SaysDelays words l → IsNodePlace names l.node place →
      marked_at marks place ≡ false → ¬ IsQuick l → DelayStepFault names marks words TooLarge

-- the words are a line without a fault, and this is what it says
pub record IsTakenDelay (names : List (List ℕ)) (marks : List Bool) (words : List (List ℕ)) (t : TakenDelay) : Type 0
  where
    pub line : DelayLine
    pub says : SaysDelays words line
    pub place : IsNodePlace names line.node t.node
    pub fresh : marked_at marks t.node ≡ false
    pub quick : IsQuick line
    pub rise : t.up ≡ line.up
    pub fall : t.down ≡ line.down

abbrev pub IsDelayStep : List (List ℕ) → List Bool → List (List ℕ) → DelayStep → Type 0
IsDelayStep names marks words Skip = words ≡ []
IsDelayStep names marks words (Refused fault) = DelayStepFault names marks words fault
IsDelayStep names marks words (Take t) = IsTakenDelay names marks words t

-- what was read of the lines
pub record AreDelaysSoFar (names lines : List (List ℕ)) (ls : List DelayLine) (up down : List ℕ) (marks : List Bool) :
    Type 0 where
  pub lines_told : AreDelaysTold names lines ls
  pub rises : up ≡ map (rise_said ls) names
  pub falls : down ≡ map (fall_said ls) names
  pub marks_are : marks ≡ map (has_line ls) names
