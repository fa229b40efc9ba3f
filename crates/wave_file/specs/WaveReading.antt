-- Reading a wave: what a text has said before each of its lines, what may come there, and why a text is refused.
use Rattle.std.specs.Prelude.{◌≡◌, ℕ, ◌+◌, ◌^◌, ◌<◌, ◌≤◌, Bool, true, not, ◌==◌, nat_lt, nat_le, List, [], ◌∷◌, ◌++◌, length, codes, Option, Some, None, if◌then◌else◌}
use Rattle.chp_base.specs.Names.{IsNodeName}
use Rattle.prs_core.specs.Moves.{high, fired}
use Rattle.wave_file.specs.declared.fault.WaveFault.{WaveFault}
use Rattle.wave_file.specs.declared.fault.WaveFault.TheVariants.{BadLine, UnknownId, TimeBack, NoChange, TooMany}
use Rattle.wave_file.specs.Waves.{WaveValue, wave_of, IsWave, IsKeptWave, var_spelling, id_of, value_spelling_of, time_mark, wave_spelling}
use Rattle.wave_file.specs.WaveLines.{is_id, id_value, GoesOnWithChange}

-- the text is that of a wave
pub record IsWaveText (text : List ℕ) (w : WaveValue) : Type 0 where
  pub wave : IsWave w
  pub kept : IsKeptWave w
  pub spelled : text ≡ wave_spelling w

-- a line's position, and what was said before it: the nodes' names, first values, and the wave so far with the time
-- of the last mark
pub data WavePlace : Type 0 where
  at_timescale : WavePlace
  at_scope : WavePlace
  at_names : List (List ℕ) → WavePlace
  at_definitions : List (List ℕ) → WavePlace
  at_start : List (List ℕ) → WavePlace
  at_values : List (List ℕ) → List Bool → WavePlace
  at_changes : WaveValue → ℕ → WavePlace

abbrev pub timescale_line : List ℕ
timescale_line = codes "$timescale 1 ns $end\n"

abbrev pub scope_line : List ℕ
scope_line = codes "$scope module top $end\n"

abbrev pub upscope_line : List ℕ
upscope_line = codes "$upscope $end\n"

abbrev pub definitions_line : List ℕ
definitions_line = codes "$enddefinitions $end\n"

abbrev pub start_line : List ℕ
start_line = codes "#0\n"

-- what a line says: only that it is the fixed line of its position, or the name of the next node, its first value, a
-- time, or a change to a value by the identifier
pub data WaveLine : Type 0 where
  stock : WaveLine
  named : List ℕ → WaveLine
  valued : Bool → WaveLine
  timed : ℕ → WaveLine
  turned : Bool → List ℕ → WaveLine

-- the text has this line at a position, and this is what follows it
pub data BeginsWith (text behind : List ℕ) : WavePlace → WaveLine → Type 0 where
  begins_timescale : text ≡ timescale_line ++ behind → BeginsWith text behind at_timescale stock
  begins_scope : text ≡ scope_line ++ behind → BeginsWith text behind at_scope stock
  begins_name : {names : List (List ℕ)} {name : List ℕ} → IsNodeName name →
      text ≡ var_spelling (length names) name ++ behind → BeginsWith text behind (at_names names) (named name)
  begins_upscope : {names : List (List ℕ)} → 2 ≤ length names →
      text ≡ upscope_line ++ behind → BeginsWith text behind (at_names names) stock
  begins_definitions : {names : List (List ℕ)} →
      text ≡ definitions_line ++ behind → BeginsWith text behind (at_definitions names) stock
  begins_start : {names : List (List ℕ)} →
      text ≡ start_line ++ behind → BeginsWith text behind (at_start names) stock
  begins_value : {names : List (List ℕ)} {first : List Bool} {value : Bool} →
      text ≡ value_spelling_of value (id_of (length first)) ++ behind →
      BeginsWith text behind (at_values names first) (valued value)
  begins_time : {w : WaveValue} {now time : ℕ} → time < 2 ^ 64 → GoesOnWithChange behind →
      text ≡ time_mark time ++ behind → BeginsWith text behind (at_changes w now) (timed time)
  begins_turn : {w : WaveValue} {now : ℕ} {value : Bool} {id : List ℕ} → is_id id ≡ true →
      text ≡ value_spelling_of value id ++ behind → BeginsWith text behind (at_changes w now) (turned value id)

-- the values of the nodes after some changes
abbrev pub values_behind : List Bool → List (ℕ × ℕ) → List Bool
values_behind values [] = values
values_behind values (c ∷ cs) = values_behind (fired values c.1) cs

-- the node has the value
abbrev pub has_value : List Bool → ℕ → Bool → Bool
has_value values node value = if value then high values node else not (high values node)

-- of a change to a value by the identifier, where so many nodes have these values
abbrev pub turn_fault : (nodes : ℕ) → List Bool → Bool → List ℕ → Option WaveFault
turn_fault nodes values value id =
    if nat_le nodes (id_value id) then Some UnknownId
    else (if has_value values (id_value id) value then Some NoChange else None)

-- of a line that is allowed at a position: the first cause that holds
abbrev pub wave_line_fault : WavePlace → WaveLine → Option WaveFault
wave_line_fault (at_names names) (named name) = if nat_lt (length names) 65537 then None else Some TooMany
wave_line_fault (at_changes w now) (timed time) = if nat_lt now time then None else Some TimeBack
wave_line_fault (at_changes w now) (turned value id) =
    turn_fault (length w.names) (values_behind w.first w.changes) value id
wave_line_fault place l = None

-- a text may end here
abbrev pub MayEndAt : WavePlace → List ℕ → Type 0
MayEndAt (at_changes w now) rest = rest ≡ []
MayEndAt place rest = ⊥

-- why a text is refused at a position where this is left of it
pub data IsFaultAt (place : WavePlace) (rest : List ℕ) : WaveFault → Type 0 where
  no_line : (MayEndAt place rest → ⊥) → ((l : WaveLine) (behind : List ℕ) → ¬ BeginsWith rest behind place l) →
      IsFaultAt place rest BadLine
  bad_line : {l : WaveLine} {behind : List ℕ} {fault : WaveFault} → BeginsWith rest behind place l →
      wave_line_fault place l ≡ Some fault → IsFaultAt place rest fault

-- the position after a line without a fault: the changes begin after the last first value
abbrev pub place_behind : WavePlace → WaveLine → WavePlace
place_behind at_timescale l = at_scope
place_behind at_scope l = at_names []
place_behind (at_names names) (named name) = at_names (names ++ name ∷ [])
place_behind (at_names names) l = at_definitions names
place_behind (at_definitions names) l = at_start names
place_behind (at_start names) l = at_values names []
place_behind (at_values names first) (valued value) = if length first + 1 == length names
    then at_changes (wave_of names (first ++ value ∷ []) []) 0 else at_values names (first ++ value ∷ [])
place_behind (at_changes w now) (timed time) = at_changes w time
place_behind (at_changes w now) (turned value id) =
    at_changes (wave_of w.names w.first (w.changes ++ (now, id_value id) ∷ [])) now
place_behind place l = place

-- so many lines of the text, none of them with a fault, lead to a position, and this is left of it
pub data IsToldTo (text : List ℕ) : (lines : ℕ) → WavePlace → (rest : List ℕ) → Type 0 where
  at_first_line : IsToldTo text 0 at_timescale text
  by_line : {lines : ℕ} {place : WavePlace} {rest behind : List ℕ} {l : WaveLine} →
      IsToldTo text lines place rest → BeginsWith rest behind place l → wave_line_fault place l ≡ None →
      IsToldTo text (lines + 1) (place_behind place l) behind

-- the text is refused at this line, counted from 1
pub record IsWaveRefused (text : List ℕ) (fault : WaveFault) (line : ℕ) : Type 0 where
  pub place : WavePlace
  pub rest : List ℕ
  pub lines : ℕ
  pub before : IsToldTo text lines place rest
  pub here : IsFaultAt place rest fault
  pub number : line ≡ lines + 1
