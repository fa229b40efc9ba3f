-- Gates on dual-rail bits: a rail of the result rises on each row of the truth table that gives its value, and falls
-- once all inputs are neutral.
use Rattle.std.specs.Prelude.{ℕ, zero, suc, ◌+◌, ◌-◌, ◌*◌, Bool, true, false, not, ◌&&◌, ◌||◌, if◌then◌else◌, List, [], ◌∷◌, ◌++◌, map, length, filter, flat_map}
use Rattle.prs_core.specs.declared.rule.Literal.{Literal}
use Rattle.prs_core.specs.Nets.{NodeRules, is_high, one_term}
use Rattle.prs_core.specs.Pairs.{Pair, pair_at, exchanged, rails_of, lows}
use Rattle.chp_syntax.specs.declared.tree.Op.{Op}
use Rattle.handshake_expand.specs.Layout.{operator_size}
use Rattle.chp_syntax.specs.declared.tree.Op.TheVariants.{And, Or, Xor, Add, Sub, Eq, Ne, Lt, Le, Gt, Ge}

-- the rows of a truth table of so many inputs, ascending, where the first input is the lowest bit
abbrev pub table : (inputs : ℕ) → List (List Bool)
table zero = [] ∷ []
table (suc n) = flat_map (λ row. (false ∷ row) ∷ (true ∷ row) ∷ []) (table n)

-- for each input the rail that is high in the row
abbrev pub minterm : List Pair → List Bool → List Literal
minterm (p ∷ ps) (b ∷ bs) = is_high (if b then p.t else p.f) ∷ minterm ps bs
minterm _ _ = []

abbrev pub gate_rail : List Pair → (List Bool → Bool) → NodeRules
gate_rail inputs f =
    record { up = map (minterm inputs) (filter f (table (length inputs))); down = one_term (lows (rails_of inputs)) }

-- rail t and rail f of a gate with this truth function
abbrev pub gate : List Pair → (List Bool → Bool) → List NodeRules
gate inputs f = gate_rail inputs f ∷ gate_rail inputs (λ row. not (f row)) ∷ []

-- truth functions

abbrev pub exclusive : Bool → Bool → Bool
exclusive true b = not b
exclusive false b = b

abbrev pub all_one : List Bool → Bool
all_one [] = true
all_one (b ∷ bs) = b && all_one bs

abbrev pub some_one : List Bool → Bool
some_one [] = false
some_one (b ∷ bs) = b || some_one bs

-- the lowest bit of their sum
abbrev pub odd_ones : List Bool → Bool
odd_ones [] = false
odd_ones (b ∷ bs) = exclusive b (odd_ones bs)

-- both are equal
abbrev pub alike : List Bool → Bool
alike row = not (odd_ones row)

-- at least two of three, both of two
abbrev pub carries : List Bool → Bool
carries (a ∷ b ∷ c ∷ []) = (a && b) || ((a && c) || (b && c))
carries row = all_one row

-- a - b, less a borrow if there is one, is below zero
abbrev pub borrows : List Bool → Bool
borrows (a ∷ more) = carries (not a ∷ more)
borrows [] = false

-- gates bit by bit

abbrev pub bitwise : (List Bool → Bool) → List Pair → List Pair → List NodeRules
bitwise f (a ∷ xs) (b ∷ ys) = gate (a ∷ b ∷ []) f ++ bitwise f xs ys
bitwise f _ _ = []

-- For each bit the bit of the result and, below the top bit, its carry: `carried` is the carry from below.
abbrev pub ripple : (List Bool → Bool) → List Pair → List Pair → (carried : List Pair) → (from : ℕ) → List NodeRules
ripple carry (a ∷ []) (b ∷ []) carried from = gate (a ∷ b ∷ carried) odd_ones
ripple carry (a ∷ xs) (b ∷ ys) carried from =
    gate (a ∷ b ∷ carried) odd_ones ++ (gate (a ∷ b ∷ carried) carry ++ ripple carry xs ys (pair_at (from + 2) ∷ [])
    (from + 4))
ripple carry _ _ carried from = []

-- the bits of the result; after each but the top one come the nodes of its carry
abbrev pub ripple_result : List Pair → (from : ℕ) → List Pair
ripple_result [] from = []
ripple_result (a ∷ xs) from = pair_at from ∷ ripple_result xs (from + 4)

-- the borrow of each bit
abbrev pub borrow_gates : List Pair → List Pair → (borrowed : List Pair) → (from : ℕ) → List NodeRules
borrow_gates (a ∷ xs) (b ∷ ys) borrowed from =
    gate (a ∷ b ∷ borrowed) borrows ++ borrow_gates xs ys (pair_at from ∷ []) (from + 2)
borrow_gates _ _ borrowed from = []

-- the conjunction of a bit with the next one, of that with the one after it, and so on
abbrev pub conjunctions : Pair → List Pair → (from : ℕ) → List NodeRules
conjunctions p [] from = []
conjunctions p (q ∷ qs) from = gate (p ∷ q ∷ []) all_one ++ conjunctions (pair_at from) qs (from + 2)

abbrev pub all_of_bits : List Pair → (from : ℕ) → List NodeRules
all_of_bits [] from = []
all_of_bits (p ∷ ps) from = conjunctions p ps from

-- one pair for each bit
abbrev pub result_pairs : List Pair → (from : ℕ) → List Pair
result_pairs [] from = []
result_pairs (a ∷ xs) from = pair_at from ∷ result_pairs xs (from + 2)

-- all gates of an equality: of each bit, and the conjunctions
abbrev pub equality : List Pair → List Pair → (from : ℕ) → List NodeRules
equality xs ys from = bitwise alike xs ys ++ all_of_bits (result_pairs xs from) (from + 2 * length xs)

-- the gates of an operator on two numbers
abbrev pub operator_rules : Op → List Pair → List Pair → (from : ℕ) → List NodeRules
operator_rules And xs ys from = bitwise all_one xs ys
operator_rules Or xs ys from = bitwise some_one xs ys
operator_rules Xor xs ys from = bitwise odd_ones xs ys
operator_rules Add xs ys from = ripple carries xs ys [] from
operator_rules Sub xs ys from = ripple borrows xs ys [] from
operator_rules Eq xs ys from = equality xs ys from
operator_rules Ne xs ys from = equality xs ys from
operator_rules Lt xs ys from = borrow_gates xs ys [] from
operator_rules Ge xs ys from = borrow_gates xs ys [] from
operator_rules Gt xs ys from = borrow_gates ys xs [] from
operator_rules Le xs ys from = borrow_gates ys xs [] from

-- the rails of its last gate
abbrev pub last_gate : Op → List Pair → (from : ℕ) → Pair
last_gate op xs from = pair_at (from + operator_size op (length xs) - 2)

-- the bits of its result; that of a comparison is the bit of the last gate, or of its opposite
abbrev pub operator_result : Op → List Pair → (from : ℕ) → List Pair
operator_result And xs from = result_pairs xs from
operator_result Or xs from = result_pairs xs from
operator_result Xor xs from = result_pairs xs from
operator_result Add xs from = ripple_result xs from
operator_result Sub xs from = ripple_result xs from
operator_result Eq xs from = last_gate Eq xs from ∷ []
operator_result Ne xs from = exchanged (last_gate Ne xs from) ∷ []
operator_result Lt xs from = last_gate Lt xs from ∷ []
operator_result Gt xs from = last_gate Gt xs from ∷ []
operator_result Ge xs from = exchanged (last_gate Ge xs from) ∷ []
operator_result Le xs from = exchanged (last_gate Le xs from) ∷ []
