-- What the two guards of a node say for each choice of the values that they read, or for how many of these are high,
-- and where the values stand now.
use Rattle.std.specs.Prelude.{◌≡◌, ℕ, ◌+◌, ◌-◌, ◌*◌, ◌^◌, ◌<◌, ◌≤◌, Bool, true, false, not, ◌&&◌, ◌||◌, ◌==◌, nat_lt, nat_le, if◌then◌else◌, List, [], ◌∷◌, ◌++◌, length, map, take, drop, slice_index, slice_index_or, All, Option, Some, None}
use Rattle.std.specs.Int.{bit_at}
use Rattle.std.specs.List.{list_any, range_with_len}
use Rattle.prs_core.specs.declared.rule.Literal.{Literal}
use Rattle.prs_core.specs.Nets.{GuardValue, NetValue, up_of, down_of}
use Rattle.prs_core.specs.Moves.{high, guard_holds}
use Rattle.prs_core.specs.Fans.{readers_below}

abbrev pub as_bit : Bool → ℕ
as_bit true = 1
as_bit false = 0

-- the number whose bits are the values of these nodes, the first one the lowest
abbrev pub index_of : (ℕ → Bool) → List ℕ → ℕ
index_of v [] = 0
index_of v (n ∷ ns) = as_bit (v n) + 2 * index_of v ns

-- the number whose bits say which of these is the node
abbrev pub weight_of : ℕ → List ℕ → ℕ
weight_of n [] = 0
weight_of n (m ∷ ms) = as_bit (m == n) + 2 * weight_of n ms

-- how many of these nodes are high
abbrev pub count_of : (ℕ → Bool) → List ℕ → ℕ
count_of v [] = 0
count_of v (n ∷ ns) = as_bit (v n) + count_of v ns

-- how many of these are the node
abbrev pub times_in : ℕ → List ℕ → ℕ
times_in n [] = 0
times_in n (m ∷ ms) = as_bit (m == n) + times_in n ms

-- the node that overrides the others, if there is one, is high
abbrev pub overrides : (ℕ → Bool) → Option ℕ → Bool
overrides v None = false
overrides v (Some n) = v n

abbrev pub is_over : ℕ → Option ℕ → Bool
is_over n None = false
is_over n (Some m) = m == n

abbrev pub override_step : ℕ → Option ℕ → ℕ
override_step n over = as_bit (is_over n over)

-- each node that the term names passes, or that the guard names
abbrev pub AllPass : (ℕ → Bool) → List Literal → Type 0
AllPass passes t = All (λ (l : Literal). passes l.node ≡ true) t

abbrev pub GuardPasses : (ℕ → Bool) → GuardValue → Type 0
GuardPasses passes g = All (AllPass passes) g

-- how a node's guards are evaluated: gone through; looked up at the index of the values of these nodes; by how many of
-- these are high, unless a node that overrides them is
pub data GuardForm : Type 0 where
  walked : GuardForm
  looked_up : List ℕ → GuardForm
  by_count : List ℕ → Option ℕ → GuardForm

-- bit by bit what the guard says for each choice of the values of these nodes
abbrev pub IsWord : List ℕ → GuardValue → ℕ → Type 0
IsWord inputs g word = (v : ℕ → Bool) → bit_at word (index_of v inputs) ≡ as_bit (guard_holds v g)

-- for each node two words, or how many of its inputs have to be high, and a place; and for each node its edges: the
-- nodes that read it, each with a weight
pub record RowsValue : Type 0 where
  pub rows : List (ℕ × ℕ)
  pub places : List ℕ
  pub edges : List (List (ℕ × ℕ))

abbrev pub guard_rows_of : List (ℕ × ℕ) → List ℕ → List (List (ℕ × ℕ)) → RowsValue
guard_rows_of rows places edges = record { rows = rows; places = places; edges = edges }

-- the weights of one row together
abbrev pub total_to : ℕ → List (ℕ × ℕ) → ℕ
total_to row [] = 0
total_to row (e ∷ es) = (if e.0 == row then e.1 else 0) + total_to row es

-- the place of a row: the index of the values; 2 ^ 30 and how many are high, and 2 ^ 29 if what overrides them is; or
-- 64 where the node has no row
abbrev pub row_place : (ℕ → Bool) → GuardForm → ℕ
row_place v walked = 64
row_place v (looked_up inputs) = index_of v inputs
row_place v (by_count inputs over) = 2 ^ 30 + count_of v inputs + 2 ^ 29 * as_bit (overrides v over)

-- what a turn of a node from low to high adds to it
abbrev pub step_of : ℕ → GuardForm → ℕ
step_of n walked = 0
step_of n (looked_up inputs) = weight_of n inputs
step_of n (by_count inputs over) = times_in n inputs + 2 ^ 29 * override_step n over

-- what a row says of the up guard and of the down guard at a place: bits of its words; or whether as many nodes are
-- high as it asks for and the node that overrides them isn't, and whether none of them is high or that node is
abbrev pub says_up : ℕ × ℕ → ℕ → Bool
says_up row place =
    if nat_lt place (2 ^ 30) then bit_at row.0 place == 1 else
    (nat_le row.0 (place - 2 ^ 30) && nat_lt place (2 ^ 30 + 2 ^ 29))

abbrev pub says_down : ℕ × ℕ → ℕ → Bool
says_down row place =
    if nat_lt place (2 ^ 30) then bit_at row.1 place == 1 else (place == 2 ^ 30 || nat_le (2 ^ 30 + 2 ^ 29) place)

pub record AreWords (raises lowers : GuardValue) (inputs : List ℕ) (row : ℕ × ℕ) : Type 0 where
  pub few : length inputs ≤ 6
  pub up : IsWord inputs raises row.0
  pub down : IsWord inputs lowers row.1

-- the up guard holds where at least so many of these nodes are high, the down guard where none is; but while what
-- overrides them is high, the down guard alone does
pub record AreCounted (raises lowers : GuardValue) (inputs : List ℕ) (over : Option ℕ) (least : ℕ) : Type 0 where
  pub few : length inputs < 2 ^ 29
  pub up : (v : ℕ → Bool) → guard_holds v raises ≡ (nat_le least (count_of v inputs) && not (overrides v over))
  pub down : (v : ℕ → Bool) → guard_holds v lowers ≡ ((count_of v inputs == 0) || overrides v over)

-- the row of a node is what its two guards say
abbrev pub IsRow : (up down : GuardValue) → GuardForm → ℕ × ℕ → Type 0
IsRow up down walked row = Unit {0}
IsRow up down (looked_up inputs) row = AreWords up down inputs row
IsRow up down (by_count inputs over) row = AreCounted up down inputs over row.0

-- the row of a node, or that it has none, is as its guards and the values say
pub record IsRowKept (net : NetValue) (values : List Bool) (r : RowsValue) (n : ℕ) : Type 0 where
  pub inputs : GuardForm
  pub row : IsRow (up_of net n) (down_of net n) inputs (slice_index_or r.rows n (0, 0))
  pub place : slice_index r.places n ≡ row_place (high values) inputs
  pub steps : (m : ℕ) → m < length net.first → total_to n (slice_index_or r.edges m []) ≡ step_of m inputs

abbrev pub readers_in : List (ℕ × ℕ) → List ℕ
readers_in es = map (λ (e : ℕ × ℕ). e.0) es

-- the last edge leads to the reader
abbrev pub ends_at : ℕ → List (ℕ × ℕ) → Bool
ends_at reader es = nat_lt 0 (length es) && (slice_index_or es (length es - 1) (0, 0)).0 == reader

-- those of the nodes below the one number are, and no later row is followed yet; the edges lead to the readers below
-- the other, in ascending order
pub record AreRowsBelow (net : NetValue) (values : List Bool) (count most : ℕ) (r : RowsValue) : Type 0 where
  pub rows : length r.rows ≡ count
  pub places : length r.places ≡ count
  pub edges : length r.edges ≡ length net.first
  pub each : (n : ℕ) → n < count → IsRowKept net values r n
  pub later : (m n : ℕ) → m < length net.first → count ≤ n → total_to n (slice_index_or r.edges m []) ≡ 0
  pub readers : (m : ℕ) → m < length net.first →
      readers_in (slice_index_or r.edges m []) ≡ readers_below net most m

-- those of all nodes are
abbrev pub AreRows : NetValue → List Bool → RowsValue → Type 0
AreRows net values r = AreRowsBelow net values (length net.first) (length net.first) r

-- While a reader is added: its node is the last reader of each node that passes, behind those below it.
abbrev pub HaveReaders : NetValue → ℕ → (ℕ → Bool) → List (List (ℕ × ℕ)) → Type 0
HaveReaders net reader passes edges = (m : ℕ) → m < length edges →
    readers_in (slice_index_or edges m []) ≡ readers_below net reader m ++ (if passes m then reader ∷ [] else [])

-- it was added to the edges of these nodes, with such weights
pub record AreAdded (reader : ℕ) (names : ℕ → Bool) (weights : ℕ → ℕ) (old new : List (List (ℕ × ℕ))) :
    Type 0 where
  pub count : length new ≡ length old
  pub total : (m r : ℕ) → m < length old → total_to r (slice_index_or new m []) ≡
      total_to r (slice_index_or old m []) + (if reader == r then weights m else 0)
  pub readers : (net : NetValue) (passes : ℕ → Bool) → HaveReaders net reader passes old →
      HaveReaders net reader (λ m. passes m || names m) new

abbrev pub is_one_of : List ℕ → ℕ → Bool
is_one_of nodes m = list_any (λ n. n == m) nodes

-- Lists as parts of one list: each begins at one of these places, and ends where the next one begins.
abbrev pub part_at : List ℕ → List (ℕ × ℕ) → ℕ → List (ℕ × ℕ)
part_at starts all m = take (slice_index starts (m + 1) - slice_index starts m) (drop (slice_index starts m) all)

abbrev pub parts_by : List ℕ → List (ℕ × ℕ) → List (List (ℕ × ℕ))
parts_by starts all = map (part_at starts all) (range_with_len 0 (length starts - 1))

pub record AreStarts (starts : List ℕ) (end : ℕ) : Type 0 where
  pub some : 0 < length starts
  pub ascend : (m : ℕ) → m + 1 < length starts → slice_index starts m ≤ slice_index starts (m + 1)
  pub within : (m : ℕ) → m < length starts → slice_index starts m ≤ end
  pub last : slice_index starts (length starts - 1) ≡ end
