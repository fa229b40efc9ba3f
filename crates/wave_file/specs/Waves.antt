-- The text of a wave: a value change dump of wires of one bit.
use Rattle.std.specs.Prelude.{◌≡◌, ℕ, ◌+◌, ◌<◌, ◌≤◌, ◌^◌, ◌/◌, ◌%◌, Bool, not, ◌==◌, nat_lt, List, [], ◌∷◌, ◌++◌, length, All, codes, decimal, if◌then◌else◌}
use Rattle.std.specs.List.{concat}
use Rattle.chp_base.specs.Names.{IsNodeName}
use Rattle.prs_core.specs.Moves.{high, fired}

-- nodes with their names and first values, and changes with their times, each of which turns its node over
pub record WaveValue : Type 0 where
  pub names : List (List ℕ)
  pub first : List Bool
  pub changes : List (ℕ × ℕ)

abbrev pub wave_of : List (List ℕ) → List Bool → List (ℕ × ℕ) → WaveValue
wave_of names first changes = record { names = names; first = first; changes = changes }

-- times never decrease, from this one on
abbrev pub NeverFall : ℕ → List (ℕ × ℕ) → Type 0
NeverFall now [] = Unit {0}
NeverFall now (c ∷ cs) = (now ≤ c.0) × NeverFall c.0 cs

-- a wave that a text can spell
pub record IsWave (w : WaveValue) : Type 0 where
  pub some : 2 ≤ length w.names
  pub most : length w.names ≤ 65537
  pub values : length w.first ≡ length w.names
  pub nodes : All (λ (c : ℕ × ℕ). c.1 < length w.names) w.changes
  pub times : NeverFall 0 w.changes

-- the type invariants of its parts
pub record IsKeptWave (w : WaveValue) : Type 0 where
  pub named : All IsNodeName w.names
  pub small : All (λ (c : ℕ × ℕ). c.0 < 2 ^ 64) w.changes

-- a digit in base 94 is one of the characters from the exclamation mark on
abbrev pub id_digit : ℕ → ℕ
id_digit digit = 33 + digit

-- the identifier of a node: its number in base 94, the lowest digit first, without a zero as the highest one. A node's
-- number has three digits at most
abbrev pub id_of : ℕ → List ℕ
id_of node = id_digit (node % 94) ∷ (if nat_lt node 94 then [] else
    id_digit (node / 94 % 94) ∷ (if nat_lt node 8836 then [] else id_digit (node / 8836) ∷ []))

-- the line that names the node of an identifier
abbrev pub naming : (id name : List ℕ) → List ℕ
naming id name = concat (codes "$var wire 1 " ∷ id ∷ codes " " ∷ name ∷ codes " $end\n" ∷ [])

abbrev pub var_spelling : ℕ → List ℕ → List ℕ
var_spelling node name = naming (id_of node) name

-- a line for each of these names, whose nodes are numbered from this one on
abbrev pub naming_lines : ℕ → List (List ℕ) → List ℕ
naming_lines node [] = []
naming_lines node (name ∷ names) = var_spelling node name ++ naming_lines (node + 1) names

-- the node of the identifier takes this value
abbrev pub value_spelling_of : Bool → List ℕ → List ℕ
value_spelling_of value id = concat ((if value then codes "1" else codes "0") ∷ id ∷ codes "\n" ∷ [])

abbrev pub first_lines : ℕ → List Bool → List ℕ
first_lines node [] = []
first_lines node (value ∷ values) = value_spelling_of value (id_of node) ++ first_lines (node + 1) values

abbrev pub time_mark : ℕ → List ℕ
time_mark time = concat (codes "#" ∷ decimal time ∷ codes "\n" ∷ [])

-- a mark comes before the first change of each time but 0
abbrev pub mark_before : ℕ → ℕ → List ℕ
mark_before now time = if now == time then [] else time_mark time

-- the changes from this time on, at which the nodes have these values
abbrev pub change_lines : ℕ → List Bool → List (ℕ × ℕ) → List ℕ
change_lines now values [] = []
change_lines now values (c ∷ cs) = (mark_before now c.0 ++ value_spelling_of (not (high values c.1)) (id_of c.1))
    ++ change_lines c.0 (fired values c.1) cs

-- the one text of a wave
abbrev pub wave_spelling : WaveValue → List ℕ
wave_spelling w =
    concat (
    codes "$timescale 1 ns $end\n" ∷ codes "$scope module top $end\n"
    ∷ naming_lines 0 w.names
    ∷ codes "$upscope $end\n" ∷ codes "$enddefinitions $end\n" ∷ codes "#0\n"
    ∷ first_lines 0 w.first
    ∷ change_lines 0 w.first w.changes
    ∷ [])
