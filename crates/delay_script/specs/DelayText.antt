-- What a delay file says of the nodes of some names, and at which line and for which cause it is refused.
use Rattle.std.specs.Prelude.{◌≡◌, ◌≢◌, ℕ, ◌+◌, ◌<◌, ◌≤◌, Bool, true, false, if◌then◌else◌, List, [], ◌∷◌, ◌++◌, length, map, filter, All, AllPairs, Contains, bytes_eq}
use Rattle.std.specs.List.{AllZip, list_any}
use Rattle.chp_base.specs.Names.{IsNodeName}
use Rattle.env_script.specs.Cutting.{lines_of, words_of}
use Rattle.env_script.specs.Numbers.{IsNumber}
use Rattle.env_script.specs.ScriptText.{is_some_line}
use Rattle.delay_script.specs.declared.line.DelayLine.{DelayLine}
use Rattle.delay_script.specs.declared.fault.DelayFault.{DelayFault}
use Rattle.delay_script.specs.declared.fault.DelayFault.TheVariants.{BadLine, UnknownNode, TooLarge, DoubleNode}
use Rattle.delay_script.specs.declared.fault.DelayError.{DelayError}
use Rattle.delay_script.specs.declared.fault.DelayError.TheVariants.{Refused, NoMemory}
use Rattle.delay_script.specs.DelayTables.{DelayTable, delay_table}

-- the words of a line are the name of a node, the delay of its rise and the delay of its fall
pub record SaysDelays (words : List (List ℕ)) (l : DelayLine) : Type 0 where
  pub up : List ℕ
  pub down : List ℕ
  pub spelled : words ≡ l.node ∷ up ∷ down ∷ []
  pub node : IsNodeName l.node
  pub rise : IsNumber up l.up
  pub fall : IsNumber down l.down

-- the node of the name has a line
abbrev pub has_line : List DelayLine → List ℕ → Bool
has_line ls name = list_any (λ (l : DelayLine). bytes_eq l.node name) ls

-- neither delay is above a million
pub record IsQuick (l : DelayLine) : Type 0 where
  pub rise : l.up ≤ 1000000
  pub fall : l.down ≤ 1000000

-- lines of a delay file: no two are of the same node
pub record AreDelays (names : List (List ℕ)) (ls : List DelayLine) : Type 0 where
  pub nodes : All (λ (l : DelayLine). Contains names l.node) ls
  pub once : AllPairs (λ (a b : DelayLine). a.node ≢ b.node) ls
  pub quick : All IsQuick ls

-- the lines of a text that have words say this of the nodes
pub record AreDelaysTold (names lines : List (List ℕ)) (ls : List DelayLine) : Type 0 where
  pub says : AllZip SaysDelays (filter is_some_line (map words_of lines)) ls
  pub good : AreDelays names ls

-- what is said of the node of the name; a node without a line has 1 and 1
abbrev pub rise_said : List DelayLine → List ℕ → ℕ
rise_said [] name = 1
rise_said (l ∷ ls) name = if bytes_eq l.node name then l.up else rise_said ls name

abbrev pub fall_said : List DelayLine → List ℕ → ℕ
fall_said [] name = 1
fall_said (l ∷ ls) name = if bytes_eq l.node name then l.down else fall_said ls name

abbrev pub delays_said : List (List ℕ) → List DelayLine → DelayTable
delays_said names ls = delay_table (map (rise_said ls) names) (map (fall_said ls) names)

-- the text is a delay file of the nodes, and these are their delays
pub record IsDelayText (names : List (List ℕ)) (text : List ℕ) (d : DelayTable) : Type 0 where
  pub lines : List DelayLine
  pub told : AreDelaysTold names (lines_of text) lines
  pub is : d ≡ delays_said names lines

-- it says no other delays, or none at all
abbrev pub IsOnlyDelays : List (List ℕ) → List ℕ → DelayTable → Type 0
IsOnlyDelays names text d = (other : DelayTable) → IsDelayText names text other → other ≡ d

abbrev pub IsNoDelayText : List (List ℕ) → List ℕ → Type 0
IsNoDelayText names text = (d : DelayTable) → ¬ IsDelayText names text d

-- why the words of a line are refused after lines that are not: each cause where none of those before it holds
pub data DelayLineFault (names : List (List ℕ)) (before : List DelayLine) (words : List (List ℕ)) : DelayFault → Type 0
  where
    no_delays : 0 < length words → ((l : DelayLine) → ¬ SaysDelays words l) → DelayLineFault names before words BadLine
    no_node : (l : DelayLine) → SaysDelays words l → ¬ Contains names l.node →
        DelayLineFault names before words UnknownNode
    again : (l : DelayLine) → SaysDelays words l → Contains names l.node → has_line before l.node ≡ true →
        DelayLineFault names before words DoubleNode
    slow : (l : DelayLine) → SaysDelays words l → Contains names l.node → has_line before l.node ≡ false → ¬ IsQuick l →
        DelayLineFault names before words TooLarge

-- the text is refused for this cause at this line, the first one with a fault
pub record IsDelayRefused (names : List (List ℕ)) (text : List ℕ) (fault : DelayFault) (line : ℕ) : Type 0 where
  pub before : List (List ℕ)
  pub here : List ℕ
  pub behind : List (List ℕ)
  pub parts : lines_of text ≡ before ++ here ∷ behind
  pub lines : List DelayLine
  pub told : AreDelaysTold names before lines
  pub fault_here : DelayLineFault names lines (words_of here) fault
  pub number : line ≡ length before + 1

-- it is refused for no other cause, and at no other line
abbrev pub IsOnlyDelayRefusal : List (List ℕ) → List ℕ → DelayFault → ℕ → Type 0
IsOnlyDelayRefusal names text fault line = (f : DelayFault) (n : ℕ) → IsDelayRefused names text f n →
    (f ≡ fault) × (n ≡ line)

-- a fact of the cause and the line for which a text is refused; out of memory is no refusal
abbrev pub OfDelayRefusal : (DelayFault → ℕ → Type 0) → DelayError → Type 0
OfDelayRefusal P (Refused fault line) = P fault line
OfDelayRefusal P (NoMemory e) = Unit {0}
