-- The gates of each operator, tried on all numbers of one bit and of two, and the circuits of some expressions.
use Rattle.std.proofs.Common.{◌≡◌, ℕ, zero, suc, ◌+◌, ◌*◌, ◌/◌, ◌%◌, ◌^◌, Bool, true, false, List, [], ◌∷◌, ◌++◌, length, Option, Some, None, refl}
use Rattle.std.specs.Prelude.{not, ◌&&◌, ◌==◌, if◌then◌else◌, map, fold, is_some, slice_index}
use Rattle.std.specs.List.{list_all, range_with_len}
use Rattle.chp_base.specs.declared.span.Span.{Span}
use Rattle.chp_syntax.specs.declared.tree.Op.{Op}
use Rattle.chp_syntax.specs.declared.tree.Op.TheVariants.{And, Or, Xor, Add, Sub, Eq, Ne, Lt, Le, Gt, Ge}
use Rattle.prs_core.specs.declared.rule.Literal.{Literal}
use Rattle.prs_core.specs.Nets.{GuardValue, NodeRules}
use Rattle.prs_core.specs.Moves.{high, guard_holds, rail_value_of}
use Rattle.prs_core.specs.Pairs.{Pair, pairs_from, rails_of}
use Rattle.width_check.specs.Processes.{Formula, constant, reading, joined, inverted, chained, compared, no_parts, and_part, no_operations, and_operation}
use Rattle.width_check.specs.Values.{operated, value}
use Rattle.handshake_expand.specs.Layout.{operator_size, formula_size}
use Rattle.function_blocks.specs.Gates.{gate, carries, borrows, operator_rules, operator_result}
use Rattle.function_blocks.specs.Expressions.{formula_rules, formula_result}

-- the rails of a number of so many bits, the lowest first
abbrev rails_for : (width number : ℕ) → List Bool
rails_for zero number = []
rails_for (suc n) number = (if number % 2 == 1 then true ∷ false ∷ [] else false ∷ true ∷ []) ++ rails_for n (number / 2)

-- each node in order rises where its up guard holds
abbrev risen : List Bool → List NodeRules → List Bool
risen state rules = fold (λ s (r : NodeRules). s ++ guard_holds (high s) r.up ∷ []) state rules

-- the same for falls: a node stays high where it is high and its down guard doesn't hold
abbrev fallen : (before state : List Bool) → List NodeRules → List Bool
fallen before state rules = fold (λ s (r : NodeRules). s ++ (high before (length s) && not (guard_holds (high s) r.down)) ∷ []) state rules

-- no down guard holds
abbrev all_held : List Bool → List NodeRules → Bool
all_held state rules = list_all (λ (r : NodeRules). not (guard_holds (high state) r.down)) rules

abbrev all_low : List Bool → Bool
all_low state = list_all not state

abbrev is_number : ℕ → Option ℕ → Bool
is_number n None = false
is_number n (Some m) = m == n

-- each bit of these nodes has one rail high
abbrev each_valid : List Bool → (bits from : ℕ) → Bool
each_valid state bits from = is_some (rail_value_of (high state) (rails_of (pairs_from bits from)))

abbrev pub rules_at : Op → (width : ℕ) → List NodeRules
rules_at op w = operator_rules op (pairs_from w 0) (pairs_from w (2 * w)) (4 * w)

abbrev pub result_at : Op → (width : ℕ) → List Pair
result_at op w = operator_result op (pairs_from w 0) (4 * w)

-- on these two numbers one rail of each gate rises, and those of the result give the value
abbrev gives_value : Op → (width a b : ℕ) → Bool
gives_value op w a b =
    let state = risen (rails_for w a ++ rails_for w b) (rules_at op w) in
    each_valid state (operator_size op w / 2) (4 * w) && is_number (operated op w a b) (rail_value_of (high state) (rails_of (result_at op w)))

-- nothing falls while the numbers stand, and once they are gone everything does
abbrev lets_go : Op → (width a b : ℕ) → Bool
lets_go op w a b =
    let state = risen (rails_for w a ++ rails_for w b) (rules_at op w) in
    all_held state (rules_at op w) && all_low (fallen state (map (λ n. false) (range_with_len 0 (4 * w))) (rules_at op w))

-- while one of the two numbers is missing no rail of the result's top bit rises
abbrev waits : Op → (width a : ℕ) → Bool
waits op w a =
    not (is_some (rail_value_of (high (risen (rails_for w a ++ map (λ n. false) (range_with_len 0 (2 * w))) (rules_at op w))) (rails_of (result_at op w))))

abbrev on_all : (width : ℕ) → (ℕ → ℕ → Bool) → Bool
on_all w test = list_all (λ a. list_all (test a) (range_with_len 0 (2 ^ w))) (range_with_len 0 (2 ^ w))

abbrev operators : List Op
operators = And ∷ Or ∷ Xor ∷ Add ∷ Sub ∷ Eq ∷ Ne ∷ Lt ∷ Le ∷ Gt ∷ Ge ∷ []

one_bit : list_all (λ op. on_all 1 (gives_value op 1)) operators ≡ true
one_bit = refl

two_bits : list_all (λ op. on_all 2 (gives_value op 2)) operators ≡ true
two_bits = refl

one_bit_falls : list_all (λ op. on_all 1 (lets_go op 1)) operators ≡ true
one_bit_falls = refl

two_bits_fall : list_all (λ op. on_all 2 (lets_go op 2)) operators ≡ true
two_bits_fall = refl

one_bit_waits : list_all (λ op. list_all (waits op 1) (range_with_len 0 2)) operators ≡ true
one_bit_waits = refl

two_bits_wait : list_all (λ op. list_all (waits op 2) (range_with_len 0 4)) operators ≡ true
two_bits_wait = refl

-- as many rules as the layout has nodes
abbrev is_sized : (width : ℕ) → Op → Bool
is_sized w op = length (rules_at op w) == operator_size op w

one_bit_sized : list_all (is_sized 1) operators ≡ true
one_bit_sized = refl

two_bits_sized : list_all (is_sized 2) operators ≡ true
two_bits_sized = refl

-- Two gates written out by hand: the rows of the table in ascending order, where the first input is the lowest bit.

abbrev pub hi : ℕ → Literal
hi node = record { node = node; high = true }

abbrev pub lo : ℕ → Literal
lo node = record { node = node; high = false }

abbrev pub turns : (up : GuardValue) → (down : List Literal) → NodeRules
turns up down = record { up = up; down = down ∷ [] }

-- whether a - b borrows; a is at the nodes 0 and 1, b at 2 and 3
borrow_of_two : gate (pairs_from 2 0) borrows ≡
    turns ((hi 1 ∷ hi 2 ∷ []) ∷ []) (lo 0 ∷ lo 1 ∷ lo 2 ∷ lo 3 ∷ [])
    ∷ turns ((hi 1 ∷ hi 3 ∷ []) ∷ (hi 0 ∷ hi 3 ∷ []) ∷ (hi 0 ∷ hi 2 ∷ []) ∷ []) (lo 0 ∷ lo 1 ∷ lo 2 ∷ lo 3 ∷ [])
    ∷ []
borrow_of_two = refl

-- the majority of three bits at the nodes 0 to 5
carry_of_three : gate (pairs_from 3 0) carries ≡
    turns ((hi 0 ∷ hi 2 ∷ hi 5 ∷ []) ∷ (hi 0 ∷ hi 3 ∷ hi 4 ∷ []) ∷ (hi 1 ∷ hi 2 ∷ hi 4 ∷ []) ∷ (hi 0 ∷ hi 2 ∷ hi 4 ∷ []) ∷ [])
    (lo 0 ∷ lo 1 ∷ lo 2 ∷ lo 3 ∷ lo 4 ∷ lo 5 ∷ [])
    ∷ turns ((hi 1 ∷ hi 3 ∷ hi 5 ∷ []) ∷ (hi 0 ∷ hi 3 ∷ hi 5 ∷ []) ∷ (hi 1 ∷ hi 2 ∷ hi 5 ∷ []) ∷ (hi 1 ∷ hi 3 ∷ hi 4 ∷ []) ∷ [])
    (lo 0 ∷ lo 1 ∷ lo 2 ∷ lo 3 ∷ lo 4 ∷ lo 5 ∷ [])
    ∷ []
carry_of_three = refl

-- Whole expressions over two variables of two bits, whose rails are at nodes 1 to 4 and 5 to 8, under the request 0.

abbrev at : Span
at = record { from = 0; to = 1 }

abbrev bits : ℕ → List Pair
bits x = pairs_from 2 (1 + 4 * x)

abbrev rules_for : Formula → List NodeRules
rules_for e = formula_rules bits e 0 9

abbrev state_for : (x y : ℕ) → Formula → List Bool
state_for x y e = risen (true ∷ (rails_for 2 x ++ rails_for 2 y)) (rules_for e)

abbrev is_right : Formula → (x y : ℕ) → Bool
is_right e x y = is_number (value (slice_index (x ∷ y ∷ [])) e) (rail_value_of (high (state_for x y e)) (rails_of (formula_result e 9)))

-- all bits that it is made of are valid, and without a request nothing rises
abbrev is_whole : Formula → (x y : ℕ) → Bool
is_whole e x y =
    each_valid (state_for x y e) (formula_size e / 2) 9 && not (each_valid (risen (false ∷ (rails_for 2 x ++ rails_for 2 y)) (rules_for e)) 1 9)

abbrev is_fit : Formula → Bool
is_fit e = (length (rules_for e) == formula_size e) && (on_all 2 (is_right e) && on_all 2 (is_whole e))

abbrev x : Formula
x = reading 0 1 0 at

abbrev y : Formula
y = reading 1 1 0 at

-- x[1], {x[0], ~y, 2} with 2 of two bits, x + y - 1, ~x ^ y & 3, x < y, (x >= 1) = y[0]
expressions : list_all is_fit (
    reading 0 1 1 at
    ∷ joined (and_part (reading 0 0 0 at) (and_part (inverted y) (and_part (constant 2 2) no_parts)))
    ∷ chained x (and_operation Add y (and_operation Sub (constant 2 1) no_operations))
    ∷ chained (inverted x) (and_operation Xor y (and_operation And (constant 2 3) no_operations))
    ∷ compared Lt x y
    ∷ compared Eq (compared Ge x (constant 2 1)) (reading 1 0 0 at)
    ∷ []) ≡ true
expressions = refl
