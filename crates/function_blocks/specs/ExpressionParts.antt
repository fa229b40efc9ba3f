-- The contract of an expression's circuit alone.
use Rattle.std.specs.Prelude.{◌≡◌, ◌≢◌, ℕ, suc, ◌+◌, ◌/◌, ◌%◌, ◌^◌, ◌<◌, ◌==◌, Bool, true, false, not, ◌&&◌, ◌⊎◌, List, [], ◌∷◌, length, map, All, Contains}
use Rattle.std.specs.List.{list_all}
use Rattle.prs_core.specs.Pairs.{Pair, pair_of, pairs_from, rails_of}
use Rattle.prs_core.specs.Parts.{Owned, Part, Wire, Moment, Reached, owned_from, fires, wire, may_move, all_low, is_valid, never_blocked, no_notes}
use Rattle.width_check.specs.Processes.{Formula}
use Rattle.width_check.specs.Values.{IsWellFormed, value}
use Rattle.handshake_expand.specs.Layout.{formula_size}
use Rattle.function_blocks.specs.Expressions.{formula_result, formula_rules}
use Rattle.function_blocks.specs.Blocks.{bits_in_blocks}
use Rattle.function_blocks.specs.BitsRead.{EachRead, bits_read}
use Rattle.function_blocks.specs.Rails.{same_bit, number_on}
use Rattle.function_blocks.specs.Parts.{gate_count}
use Rattle.function_blocks.specs.Listed.{node_of}

-- for each variable the number that the rails t of its bits say
abbrev pub numbers_on : (ℕ → List Pair) → (ℕ → Bool) → ℕ → ℕ
numbers_on bits v x = number_on (length (bits x)) (λ i one. v (node_of (pair_of (bits x) i) one))

-- the expression's value over the numbers on the variables' rails
abbrev pub value_seen : (ℕ → List Pair) → Formula → (ℕ → Bool) → ℕ
value_seen bits e v = value (numbers_on bits v) e

-- A rail of the result is to rise under the request where it is that of the value's bit, and to fall without the
-- request.
abbrev pub value_wire : (request : ℕ) → (number : (ℕ → Bool) → ℕ) → (bit : ℕ) → Pair → Bool → Wire
value_wire request number i p one =
    wire (node_of p one)
    (λ m. m.value request && same_bit one (number m.value / 2 ^ i % 2 == 1))
    (λ m. not (m.value request))

abbrev pub value_wires : (request : ℕ) → (number : (ℕ → Bool) → ℕ) → (bit : ℕ) → List Pair → List Wire
value_wires request number i [] = []
value_wires request number i (p ∷ ps) =
    value_wire request number i p true ∷ value_wire request number i p false ∷ value_wires request number (suc i) ps

-- A rail of a bit that is read moves while the request is low, and rises only where the bit's other rail is low.
abbrev pub variable_wire : (request : ℕ) → Pair → Bool → Wire
variable_wire request p one =
    wire (node_of p one) (λ m. not (m.value request) && not (m.value (node_of p (not one))))
    (λ m. not (m.value request))

abbrev pub variable_wires : (request : ℕ) → List Pair → List Wire
variable_wires request [] = []
variable_wires request (p ∷ ps) =
    variable_wire request p true ∷ variable_wire request p false ∷ variable_wires request ps

-- The request may rise where the rails of the result are low and each bit that is read is valid, and fall where each
-- bit of the result is.
abbrev pub asking_wire : (request : ℕ) → (read result : List Pair) → Wire
asking_wire request read result =
    wire request
    (λ m. all_low m.value (rails_of result) && list_all (is_valid m.value) read)
    (λ m. list_all (is_valid m.value) result)

abbrev pub expression_part : (ℕ → List Pair) → Formula → (request from : ℕ) → Part
expression_part bits e request from =
    let result = formula_result e from in
    let read = bits_read bits e in
    let own = owned_from from (formula_rules bits e request from) in record {
      own = own;
      promises = value_wires request (value_seen bits e) 0 result;
      allows = asking_wire request read result ∷ variable_wires request read;
      lows = map (λ (o : Owned). o.node) own;
      bits = [];
      ports = request ∷ rails_of result;
      blocked = never_blocked;
      notes = no_notes;
    }

-- the bits of all its nodes: two nodes each
abbrev pub inner_bits : Formula → (from : ℕ) → List Pair
inner_bits e from = pairs_from (gate_count e) from

-- the node is none of so many own ones
abbrev pub IsOutside : (from size node : ℕ) → Type 0
IsOutside from size node = (k : ℕ) → k < size → node ≢ from + k

-- no node is a rail of two bits, or both rails of one
abbrev pub AreDistinct : List Pair → Type 0
AreDistinct read =
    (p q : Pair) (one side : Bool) → Contains read p → Contains read q → node_of p one ≡ node_of q side → (p ≡ q)
    × (one ≡ side)

-- A well-formed expression whose request and whose variables' rails are distinct nodes, and none of its own.
pub record StandsApart (bits : ℕ → List Pair) (e : Formula) (request from : ℕ) : Type 0 where
  pub formed : IsWellFormed e
  pub there : EachRead (λ x bit. bit < length (bits x)) e
  pub outside : All (IsOutside from (formula_size e)) (request ∷ rails_of (bits_read bits e))
  pub unasked : All (λ rail. rail ≢ request) (rails_of (bits_read bits e))
  pub distinct : AreDistinct (bits_read bits e)

-- What it waits for at rest: for its request, or, while that is low, for a bit that is read and isn't valid.
abbrev pub ExpressionRests : (ℕ → List Pair) → Formula → (request from : ℕ) → Moment → Type 0
ExpressionRests bits e request from m =
    (may_move m (asking_wire request (bits_read bits e) (formula_result e from)) ≡ true)
    ⊎ ((m.value request ≡ false) × (list_all (is_valid m.value) (bits_read bits e) ≡ false))

-- Where the request is high and all bits of the result are valid, all inner bits are valid.
abbrev pub IsWhollyValid : (ℕ → List Pair) → Formula → (request from : ℕ) → Moment → Type 0
IsWhollyValid bits e request from m =
    m.value request ≡ true → list_all (is_valid m.value) (formula_result e from) ≡ true →
    list_all (is_valid m.value) (inner_bits e from) ≡ true

-- Where the request is low and all rails of the result are low, all inner rails are low.
abbrev pub IsWhollyNeutral : (ℕ → List Pair) → Formula → (request from : ℕ) → Moment → Type 0
IsWhollyNeutral bits e request from m =
    m.value request ≡ false → all_low m.value (rails_of (formula_result e from)) ≡ true →
    all_low m.value (rails_of (inner_bits e from)) ≡ true

-- Where no rule of the circuit is enabled, it waits.
abbrev pub WaitsAtRest : (ℕ → List Pair) → Formula → (request from : ℕ) → Moment → Type 0
WaitsAtRest bits e request from m =
    ((o : Owned) → Contains (owned_from from (formula_rules bits e request from)) o → fires m.value o ≡ false) →
    ExpressionRests bits e request from m

-- in each moment that the circuit reaches, whatever its neighbours do within the contract
abbrev pub InItsMoments : ((ℕ → List Pair) → Formula → (request from : ℕ) → Moment → Type 0) →
    (ℕ → List Pair) → Formula → (request from : ℕ) → Type 0
InItsMoments P bits e request from =
    (m : Moment) → Reached (expression_part bits e request from) m → P bits e request from m

abbrev pub InEachMoment : ((ℕ → List Pair) → Formula → (request from : ℕ) → Moment → Type 0) → Type 0
InEachMoment P =
    (bits : ℕ → List Pair) (e : Formula) (request from : ℕ) → StandsApart bits e request from
    → InItsMoments P bits e request from

-- The nodes with their rules, and the rails that are read, where the variables' blocks begin at these nodes.
abbrev pub expression_owned : (firsts : List ℕ) → Formula → (request from : ℕ) → List Owned
expression_owned firsts e request from = owned_from from (formula_rules (bits_in_blocks firsts) e request from)

abbrev pub rails_read : (firsts : List ℕ) → Formula → List ℕ
rails_read firsts e = rails_of (bits_read (bits_in_blocks firsts) e)
