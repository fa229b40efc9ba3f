-- Two rails for each bit: pairs of them, their moves, and what many say.
use Rattle.std.specs.Prelude.{◌≡◌, ℕ, zero, suc, ◌+◌, ◌*◌, Bool, true, false, not, ◌&&◌, ◌||◌, if◌then◌else◌, Option, Some}
use Rattle.prs_core.specs.Moves.{bit_value, with_bit}
use Rattle.width_check.specs.Values.{one_if}

-- the two rails of a bit
pub record RailLevels : Type 0 where
  pub t : Bool
  pub f : Bool

abbrev pub levels_of : (t f : Bool) → RailLevels
levels_of t f = record { t = t; f = f }

-- that for the bit 1 is the rail t
abbrev pub side_of : RailLevels → (one : Bool) → Bool
side_of x true = x.t
side_of x false = x.f

-- the pair with this rail flipped
abbrev pub turned_side : RailLevels → Bool → RailLevels
turned_side x true = levels_of (not x.t) x.f
turned_side x false = levels_of x.t (not x.f)

-- the rails exchanged, or not
abbrev pub cross : Bool → RailLevels → RailLevels
cross true x = levels_of x.f x.t
cross false x = x

-- not both are high, one at least is, none is
abbrev pub single : RailLevels → Bool
single x = not (x.t && x.f)

abbrev pub some : RailLevels → Bool
some x = x.t || x.f

abbrev pub levels_neutral : RailLevels → Bool
levels_neutral x = not x.t && not x.f

-- so many pairs
abbrev pub Pairs : ℕ → Type 0
Pairs zero = Unit {0}
Pairs (suc n) = RailLevels × Pairs n

abbrev pub low_pairs : (n : ℕ) → Pairs n
low_pairs zero = tt
low_pairs (suc n) = (levels_of false false, low_pairs n)

-- the pair of this number, low beyond the last one
abbrev pub pair_in : (n : ℕ) → Pairs n → ℕ → RailLevels
pair_in zero u k = levels_of false false
pair_in (suc n) u zero = u.0
pair_in (suc n) u (suc k) = pair_in n u.1 k

abbrev pub turned_pairs : (n : ℕ) → Pairs n → ℕ → Bool → Pairs n
turned_pairs zero u k one = u
turned_pairs (suc n) u zero one = (turned_side u.0 one, u.1)
turned_pairs (suc n) u (suc k) one = (u.0, turned_pairs n u.1 k one)

-- a node's value, and whether its up guard and its down guard hold
pub record Rule : Type 0 where
  pub now : Bool
  pub up : Bool
  pub down : Bool

abbrev pub rule_of : (now up down : Bool) → Rule
rule_of now up down = record { now = now; up = up; down = down }

-- a node without rules
abbrev pub no_rule : Bool → Rule
no_rule now = rule_of now false false

-- a node of this value turns over where the guards hold so
abbrev pub turns : (now up down : Bool) → Bool
turns now up down = if now then down else up

abbrev pub one_rule_fires : Rule → Bool
one_rule_fires r = turns r.now r.up r.down

abbrev pub is_apart : Rule → Bool
is_apart r = not (r.up && r.down)

abbrev pub same_bit : Bool → Bool → Bool
same_bit true b = b
same_bit false b = not b

-- the rails of bits, as a function
abbrev pub Rails : Type 0
Rails = (bit : ℕ) → Bool → Bool

-- the number on so many pairs of rails, the lowest bit first; none where a pair hasn't exactly one rail high
abbrev pub value_on : ℕ → Rails → Option ℕ
value_on zero rail = Some 0
value_on (suc n) rail = with_bit (bit_value (rail zero true) (rail zero false)) (value_on n (λ i. rail (suc i)))

-- all of these rails are low
abbrev pub neutral_on : ℕ → Rails → Bool
neutral_on zero rail = true
neutral_on (suc n) rail = (not (rail zero true) && not (rail zero false)) && neutral_on n (λ i. rail (suc i))

-- the number that the rails t say
abbrev pub number_on : ℕ → Rails → ℕ
number_on zero rail = 0
number_on (suc n) rail = one_if (rail zero true) + 2 * number_on n (λ i. rail (suc i))

-- no bit of a variable has both rails high
abbrev pub Single : (bits : ℕ → Rails) → Type 0
Single bits = (x i : ℕ) → not (bits x i true && bits x i false) ≡ true
