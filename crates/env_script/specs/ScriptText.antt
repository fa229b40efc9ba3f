-- What a script text says of some channels, and at which line and for which cause it is refused.
use Rattle.std.specs.Prelude.{◌≡◌, ◌≢◌, ℕ, ◌+◌, ◌^◌, ◌<◌, ◌≤◌, Bool, true, false, not, ◌==◌, nat_lt, List, [], ◌∷◌, ◌++◌, length, map, filter, All, AllPairs, sum_by, Option, Some, None, bytes_eq, codes, if◌then◌else◌}
use Rattle.std.specs.List.{AllZip, list_any, list_all}
use Rattle.chp_base.specs.Names.{IsName}
use Rattle.chp_base.specs.declared.channel.Channel.{Channel}
use Rattle.chp_base.specs.declared.channel.Kind.{Kind}
use Rattle.chp_base.specs.declared.channel.Kind.TheVariants.{In, Out, Chan}
use Rattle.env_script.specs.declared.script.Count.{Count}
use Rattle.env_script.specs.declared.script.Count.TheVariants.{Times}
use Rattle.env_script.specs.declared.line.Said.{Said}
use Rattle.env_script.specs.declared.line.Said.TheVariants.{Numbers, Every}
use Rattle.env_script.specs.declared.line.Line.{Line}
use Rattle.env_script.specs.declared.fault.ScriptFault.{ScriptFault}
use Rattle.env_script.specs.declared.fault.ScriptFault.TheVariants.{BadLine, NoSuchChannel, TooWide, DoubleChannel, TooManyValues}
use Rattle.env_script.specs.declared.fault.ScriptError.{ScriptError}
use Rattle.env_script.specs.declared.fault.ScriptError.TheVariants.{Refused, NoMemory}
use Rattle.env_script.specs.Scripts.{OfferValue, gives, takes, nothing}
use Rattle.env_script.specs.Numbers.{IsNumber}
use Rattle.env_script.specs.Cutting.{lines_of, words_of}

-- what follows the name: the word all, or numbers
abbrev pub SaysBehind : List (List ℕ) → Said → Type 0
SaysBehind words Every = words ≡ codes "all" ∷ []
SaysBehind words (Numbers ns) = AllZip IsNumber words ns

-- the words of a line are a name with its colon, and what is said of the channel
pub record LineSays (words : List (List ℕ)) (l : Line) : Type 0 where
  pub name : IsName l.name
  pub behind : List (List ℕ)
  pub spelled : words ≡ (l.name ++ codes ":") ∷ behind
  pub said : SaysBehind behind l.said

abbrev pub channel_named : List Channel → List ℕ → Option Channel
channel_named [] name = None
channel_named (c ∷ cs) name = if bytes_eq c.name name then Some c else channel_named cs name

abbrev pub is_inside : Kind → Bool
is_inside Chan = true
is_inside _ = false

-- values for an `in` channel, one number or all for an `out` channel
abbrev pub suits : Kind → Said → Bool
suits In (Numbers ns) = true
suits Out Every = true
suits Out (Numbers (n ∷ [])) = true
suits _ _ = false

-- each value is one of the width
abbrev pub fits : Kind → ℕ → Said → Bool
fits In width (Numbers ns) = list_all (λ n. nat_lt n (2 ^ width)) ns
fits _ width _ = true

-- how many values a line has; a number of acceptances is none
abbrev pub values_in : Kind → Said → ℕ
values_in In (Numbers ns) = length ns
values_in _ _ = 0

abbrev pub values_on : Option Channel → Said → ℕ
values_on None said = 0
values_on (Some c) said = values_in c.kind said

abbrev pub values_told : List Channel → List Line → ℕ
values_told channels ls = sum_by (λ (l : Line). values_on (channel_named channels l.name) l.said) ls

-- the line is about an external channel, and suits it
pub record IsLineOf (channels : List Channel) (l : Line) : Type 0 where
  pub channel : Channel
  pub named : channel_named channels l.name ≡ Some channel
  pub suited : suits channel.kind l.said ≡ true
  pub fitting : fits channel.kind channel.width l.said ≡ true

-- lines of a script: no two are about the same channel, and there are at most 65,536 values in all
pub record IsGood (channels : List Channel) (ls : List Line) : Type 0 where
  pub each : All (IsLineOf channels) ls
  pub once : AllPairs (λ (a b : Line). a.name ≢ b.name) ls
  pub few : values_told channels ls ≤ 65536

-- a line with words
abbrev pub is_some_line : List (List ℕ) → Bool
is_some_line words = not (length words == 0)

-- the lines of a text that have words say this of the channels
pub record IsTold (channels : List Channel) (lines : List (List ℕ)) (ls : List Line) : Type 0 where
  pub says : AllZip LineSays (filter is_some_line (map words_of lines)) ls
  pub good : IsGood channels ls

-- what is said of the channel of the name
abbrev pub said_of : List Line → List ℕ → Option Said
said_of [] name = None
said_of (l ∷ ls) name = if bytes_eq l.name name then Some l.said else said_of ls name

-- an `in` channel without a line has no values, an `out` channel without a line has all
abbrev pub offer_of : Kind → Option Said → OfferValue
offer_of In (Some (Numbers ns)) = gives ns
offer_of In _ = gives []
offer_of Out (Some (Numbers (n ∷ []))) = takes (Times n)
offer_of Out _ = takes Count.All
offer_of Chan _ = nothing

abbrev pub script_of : List Channel → List Line → List OfferValue
script_of channels ls = map (λ (c : Channel). offer_of c.kind (said_of ls c.name)) channels

-- the text is a script of the channels, and this one
pub record IsScriptText (channels : List Channel) (text : List ℕ) (script : List OfferValue) : Type 0 where
  pub lines : List Line
  pub told : IsTold channels (lines_of text) lines
  pub is : script ≡ script_of channels lines

-- the text is no other script of the channels, or none at all
abbrev pub IsOnlyScript : List Channel → List ℕ → List OfferValue → Type 0
IsOnlyScript channels text script = (other : List OfferValue) → IsScriptText channels text other → other ≡ script

abbrev pub IsNoScript : List Channel → List ℕ → Type 0
IsNoScript channels text = (script : List OfferValue) → ¬ IsScriptText channels text script

-- why a line is refused after lines that are not: the first cause counts

abbrev pub is_told : List Line → List ℕ → Bool
is_told ls name = list_any (λ (l : Line). bytes_eq l.name name) ls

abbrev pub fault_on : Channel → Bool → ℕ → Said → Option ScriptFault
fault_on c again before said =
    if is_inside c.kind then Some NoSuchChannel else (
    if again then Some DoubleChannel else (
    if not (suits c.kind said) then Some BadLine else (
    if not (fits c.kind c.width said) then Some TooWide else (
    if nat_lt 65536 (before + values_in c.kind said) then Some TooManyValues else None))))

abbrev pub fault_at : Option Channel → Bool → ℕ → Said → Option ScriptFault
fault_at None again before said = Some NoSuchChannel
fault_at (Some c) again before said = fault_on c again before said

abbrev pub line_fault : List Channel → List Line → Line → Option ScriptFault
line_fault channels before l = fault_at (channel_named channels l.name) (is_told before l.name)
    (values_told channels before) l.said

pub data ScriptLineFault (channels : List Channel) (before : List Line) (words : List (List ℕ)) : ScriptFault →
    Type 0 where
  bad_line : 0 < length words → ((l : Line) → ¬ LineSays words l) → ScriptLineFault channels before words BadLine
  of_line : (l : Line) {fault : ScriptFault} → LineSays words l → line_fault channels before l ≡ Some fault →
      ScriptLineFault channels before words fault

-- the text is refused for this cause at this line, the first one with a fault
pub record IsScriptRefused (channels : List Channel) (text : List ℕ) (fault : ScriptFault) (line : ℕ) : Type 0 where
  pub before : List (List ℕ)
  pub here : List ℕ
  pub behind : List (List ℕ)
  pub parts : lines_of text ≡ before ++ here ∷ behind
  pub lines : List Line
  pub told : IsTold channels before lines
  pub fault_here : ScriptLineFault channels lines (words_of here) fault
  pub number : line ≡ length before + 1

-- it is refused for no other cause, and at no other line
abbrev pub IsOnlyRefusal : List Channel → List ℕ → ScriptFault → ℕ → Type 0
IsOnlyRefusal channels text fault line = (f : ScriptFault) (n : ℕ) → IsScriptRefused channels text f n →
    (f ≡ fault) × (n ≡ line)

-- a fact of the cause and the line for which a text is refused; out of memory is no refusal
abbrev pub OfScriptRefusal : (ScriptFault → ℕ → Type 0) → ScriptError → Type 0
OfScriptRefusal P (Refused fault line) = P fault line
OfScriptRefusal P (NoMemory e) = Unit {0}
