-- The gates of each operator on two numbers of three bits, written out from the truth table of each gate: the rows ascend, and
-- the first input is their lowest bit. The one number is at the nodes 0 to 5, the other one at 6 to 11; the gates follow.
use Rattle.std.proofs.Common.{◌≡◌, ℕ, List, [], ◌∷◌, refl}
use Rattle.chp_syntax.specs.declared.tree.Op.TheVariants.{And, Or, Xor, Add, Sub, Eq, Ne, Lt, Le, Gt, Ge}
use Rattle.prs_core.specs.declared.rule.Literal.{Literal}
use Rattle.prs_core.specs.Nets.{GuardValue, NodeRules}
use Rattle.prs_core.specs.Pairs.{Pair}
use Rattle.function_blocks.proofs.Examples.{hi, lo, turns, rules_at, result_at}

abbrev lows : List ℕ → List Literal
lows [] = []
lows (n ∷ ns) = lo n ∷ lows ns

abbrev highs : List ℕ → List Literal
highs [] = []
highs (n ∷ ns) = hi n ∷ highs ns

-- each term wants its nodes high
abbrev terms : List (List ℕ) → GuardValue
terms [] = []
terms (t ∷ ts) = highs t ∷ terms ts

abbrev rails : (t f : ℕ) → Pair
rails t f = record { t = t; f = f }

abbrev conjunction_rows : List NodeRules
conjunction_rows =
    turns (terms ((0 ∷ 6 ∷ []) ∷ [])) (lows (0 ∷ 1 ∷ 6 ∷ 7 ∷ []))
    ∷ turns (terms ((1 ∷ 7 ∷ []) ∷ (0 ∷ 7 ∷ []) ∷ (1 ∷ 6 ∷ []) ∷ [])) (lows (0 ∷ 1 ∷ 6 ∷ 7 ∷ []))
    ∷ turns (terms ((2 ∷ 8 ∷ []) ∷ [])) (lows (2 ∷ 3 ∷ 8 ∷ 9 ∷ []))
    ∷ turns (terms ((3 ∷ 9 ∷ []) ∷ (2 ∷ 9 ∷ []) ∷ (3 ∷ 8 ∷ []) ∷ [])) (lows (2 ∷ 3 ∷ 8 ∷ 9 ∷ []))
    ∷ turns (terms ((4 ∷ 10 ∷ []) ∷ [])) (lows (4 ∷ 5 ∷ 10 ∷ 11 ∷ []))
    ∷ turns (terms ((5 ∷ 11 ∷ []) ∷ (4 ∷ 11 ∷ []) ∷ (5 ∷ 10 ∷ []) ∷ [])) (lows (4 ∷ 5 ∷ 10 ∷ 11 ∷ []))
    ∷ []

conjunction : rules_at And 3 ≡ conjunction_rows
conjunction = refl

conjunction_result : result_at And 3 ≡ rails 12 13 ∷ rails 14 15 ∷ rails 16 17 ∷ []
conjunction_result = refl

abbrev disjunction_rows : List NodeRules
disjunction_rows =
    turns (terms ((0 ∷ 7 ∷ []) ∷ (1 ∷ 6 ∷ []) ∷ (0 ∷ 6 ∷ []) ∷ [])) (lows (0 ∷ 1 ∷ 6 ∷ 7 ∷ []))
    ∷ turns (terms ((1 ∷ 7 ∷ []) ∷ [])) (lows (0 ∷ 1 ∷ 6 ∷ 7 ∷ []))
    ∷ turns (terms ((2 ∷ 9 ∷ []) ∷ (3 ∷ 8 ∷ []) ∷ (2 ∷ 8 ∷ []) ∷ [])) (lows (2 ∷ 3 ∷ 8 ∷ 9 ∷ []))
    ∷ turns (terms ((3 ∷ 9 ∷ []) ∷ [])) (lows (2 ∷ 3 ∷ 8 ∷ 9 ∷ []))
    ∷ turns (terms ((4 ∷ 11 ∷ []) ∷ (5 ∷ 10 ∷ []) ∷ (4 ∷ 10 ∷ []) ∷ [])) (lows (4 ∷ 5 ∷ 10 ∷ 11 ∷ []))
    ∷ turns (terms ((5 ∷ 11 ∷ []) ∷ [])) (lows (4 ∷ 5 ∷ 10 ∷ 11 ∷ []))
    ∷ []

disjunction : rules_at Or 3 ≡ disjunction_rows
disjunction = refl

disjunction_result : result_at Or 3 ≡ rails 12 13 ∷ rails 14 15 ∷ rails 16 17 ∷ []
disjunction_result = refl

abbrev exclusive_or_rows : List NodeRules
exclusive_or_rows =
    turns (terms ((0 ∷ 7 ∷ []) ∷ (1 ∷ 6 ∷ []) ∷ [])) (lows (0 ∷ 1 ∷ 6 ∷ 7 ∷ []))
    ∷ turns (terms ((1 ∷ 7 ∷ []) ∷ (0 ∷ 6 ∷ []) ∷ [])) (lows (0 ∷ 1 ∷ 6 ∷ 7 ∷ []))
    ∷ turns (terms ((2 ∷ 9 ∷ []) ∷ (3 ∷ 8 ∷ []) ∷ [])) (lows (2 ∷ 3 ∷ 8 ∷ 9 ∷ []))
    ∷ turns (terms ((3 ∷ 9 ∷ []) ∷ (2 ∷ 8 ∷ []) ∷ [])) (lows (2 ∷ 3 ∷ 8 ∷ 9 ∷ []))
    ∷ turns (terms ((4 ∷ 11 ∷ []) ∷ (5 ∷ 10 ∷ []) ∷ [])) (lows (4 ∷ 5 ∷ 10 ∷ 11 ∷ []))
    ∷ turns (terms ((5 ∷ 11 ∷ []) ∷ (4 ∷ 10 ∷ []) ∷ [])) (lows (4 ∷ 5 ∷ 10 ∷ 11 ∷ []))
    ∷ []

exclusive_or : rules_at Xor 3 ≡ exclusive_or_rows
exclusive_or = refl

exclusive_or_result : result_at Xor 3 ≡ rails 12 13 ∷ rails 14 15 ∷ rails 16 17 ∷ []
exclusive_or_result = refl

abbrev sum_rows : List NodeRules
sum_rows =
    turns (terms ((0 ∷ 7 ∷ []) ∷ (1 ∷ 6 ∷ []) ∷ [])) (lows (0 ∷ 1 ∷ 6 ∷ 7 ∷ []))
    ∷ turns (terms ((1 ∷ 7 ∷ []) ∷ (0 ∷ 6 ∷ []) ∷ [])) (lows (0 ∷ 1 ∷ 6 ∷ 7 ∷ []))
    ∷ turns (terms ((0 ∷ 6 ∷ []) ∷ [])) (lows (0 ∷ 1 ∷ 6 ∷ 7 ∷ []))
    ∷ turns (terms ((1 ∷ 7 ∷ []) ∷ (0 ∷ 7 ∷ []) ∷ (1 ∷ 6 ∷ []) ∷ [])) (lows (0 ∷ 1 ∷ 6 ∷ 7 ∷ []))
    ∷ turns (terms ((2 ∷ 9 ∷ 15 ∷ []) ∷ (3 ∷ 8 ∷ 15 ∷ []) ∷ (3 ∷ 9 ∷ 14 ∷ []) ∷ (2 ∷ 8 ∷ 14 ∷ []) ∷ [])) (lows (2 ∷ 3 ∷ 8 ∷ 9 ∷ 14 ∷ 15 ∷ []))
    ∷ turns (terms ((3 ∷ 9 ∷ 15 ∷ []) ∷ (2 ∷ 8 ∷ 15 ∷ []) ∷ (2 ∷ 9 ∷ 14 ∷ []) ∷ (3 ∷ 8 ∷ 14 ∷ []) ∷ [])) (lows (2 ∷ 3 ∷ 8 ∷ 9 ∷ 14 ∷ 15 ∷ []))
    ∷ turns (terms ((2 ∷ 8 ∷ 15 ∷ []) ∷ (2 ∷ 9 ∷ 14 ∷ []) ∷ (3 ∷ 8 ∷ 14 ∷ []) ∷ (2 ∷ 8 ∷ 14 ∷ []) ∷ [])) (lows (2 ∷ 3 ∷ 8 ∷ 9 ∷ 14 ∷ 15 ∷ []))
    ∷ turns (terms ((3 ∷ 9 ∷ 15 ∷ []) ∷ (2 ∷ 9 ∷ 15 ∷ []) ∷ (3 ∷ 8 ∷ 15 ∷ []) ∷ (3 ∷ 9 ∷ 14 ∷ []) ∷ [])) (lows (2 ∷ 3 ∷ 8 ∷ 9 ∷ 14 ∷ 15 ∷ []))
    ∷ turns (terms ((4 ∷ 11 ∷ 19 ∷ []) ∷ (5 ∷ 10 ∷ 19 ∷ []) ∷ (5 ∷ 11 ∷ 18 ∷ []) ∷ (4 ∷ 10 ∷ 18 ∷ []) ∷ [])) (lows (4 ∷ 5 ∷ 10 ∷ 11 ∷ 18 ∷ 19 ∷ []))
    ∷ turns (terms ((5 ∷ 11 ∷ 19 ∷ []) ∷ (4 ∷ 10 ∷ 19 ∷ []) ∷ (4 ∷ 11 ∷ 18 ∷ []) ∷ (5 ∷ 10 ∷ 18 ∷ []) ∷ [])) (lows (4 ∷ 5 ∷ 10 ∷ 11 ∷ 18 ∷ 19 ∷ []))
    ∷ []

sum : rules_at Add 3 ≡ sum_rows
sum = refl

sum_result : result_at Add 3 ≡ rails 12 13 ∷ rails 16 17 ∷ rails 20 21 ∷ []
sum_result = refl

abbrev difference_rows : List NodeRules
difference_rows =
    turns (terms ((0 ∷ 7 ∷ []) ∷ (1 ∷ 6 ∷ []) ∷ [])) (lows (0 ∷ 1 ∷ 6 ∷ 7 ∷ []))
    ∷ turns (terms ((1 ∷ 7 ∷ []) ∷ (0 ∷ 6 ∷ []) ∷ [])) (lows (0 ∷ 1 ∷ 6 ∷ 7 ∷ []))
    ∷ turns (terms ((1 ∷ 6 ∷ []) ∷ [])) (lows (0 ∷ 1 ∷ 6 ∷ 7 ∷ []))
    ∷ turns (terms ((1 ∷ 7 ∷ []) ∷ (0 ∷ 7 ∷ []) ∷ (0 ∷ 6 ∷ []) ∷ [])) (lows (0 ∷ 1 ∷ 6 ∷ 7 ∷ []))
    ∷ turns (terms ((2 ∷ 9 ∷ 15 ∷ []) ∷ (3 ∷ 8 ∷ 15 ∷ []) ∷ (3 ∷ 9 ∷ 14 ∷ []) ∷ (2 ∷ 8 ∷ 14 ∷ []) ∷ [])) (lows (2 ∷ 3 ∷ 8 ∷ 9 ∷ 14 ∷ 15 ∷ []))
    ∷ turns (terms ((3 ∷ 9 ∷ 15 ∷ []) ∷ (2 ∷ 8 ∷ 15 ∷ []) ∷ (2 ∷ 9 ∷ 14 ∷ []) ∷ (3 ∷ 8 ∷ 14 ∷ []) ∷ [])) (lows (2 ∷ 3 ∷ 8 ∷ 9 ∷ 14 ∷ 15 ∷ []))
    ∷ turns (terms ((3 ∷ 8 ∷ 15 ∷ []) ∷ (3 ∷ 9 ∷ 14 ∷ []) ∷ (3 ∷ 8 ∷ 14 ∷ []) ∷ (2 ∷ 8 ∷ 14 ∷ []) ∷ [])) (lows (2 ∷ 3 ∷ 8 ∷ 9 ∷ 14 ∷ 15 ∷ []))
    ∷ turns (terms ((3 ∷ 9 ∷ 15 ∷ []) ∷ (2 ∷ 9 ∷ 15 ∷ []) ∷ (2 ∷ 8 ∷ 15 ∷ []) ∷ (2 ∷ 9 ∷ 14 ∷ []) ∷ [])) (lows (2 ∷ 3 ∷ 8 ∷ 9 ∷ 14 ∷ 15 ∷ []))
    ∷ turns (terms ((4 ∷ 11 ∷ 19 ∷ []) ∷ (5 ∷ 10 ∷ 19 ∷ []) ∷ (5 ∷ 11 ∷ 18 ∷ []) ∷ (4 ∷ 10 ∷ 18 ∷ []) ∷ [])) (lows (4 ∷ 5 ∷ 10 ∷ 11 ∷ 18 ∷ 19 ∷ []))
    ∷ turns (terms ((5 ∷ 11 ∷ 19 ∷ []) ∷ (4 ∷ 10 ∷ 19 ∷ []) ∷ (4 ∷ 11 ∷ 18 ∷ []) ∷ (5 ∷ 10 ∷ 18 ∷ []) ∷ [])) (lows (4 ∷ 5 ∷ 10 ∷ 11 ∷ 18 ∷ 19 ∷ []))
    ∷ []

difference : rules_at Sub 3 ≡ difference_rows
difference = refl

difference_result : result_at Sub 3 ≡ rails 12 13 ∷ rails 16 17 ∷ rails 20 21 ∷ []
difference_result = refl

abbrev equality_rows : List NodeRules
equality_rows =
    turns (terms ((1 ∷ 7 ∷ []) ∷ (0 ∷ 6 ∷ []) ∷ [])) (lows (0 ∷ 1 ∷ 6 ∷ 7 ∷ []))
    ∷ turns (terms ((0 ∷ 7 ∷ []) ∷ (1 ∷ 6 ∷ []) ∷ [])) (lows (0 ∷ 1 ∷ 6 ∷ 7 ∷ []))
    ∷ turns (terms ((3 ∷ 9 ∷ []) ∷ (2 ∷ 8 ∷ []) ∷ [])) (lows (2 ∷ 3 ∷ 8 ∷ 9 ∷ []))
    ∷ turns (terms ((2 ∷ 9 ∷ []) ∷ (3 ∷ 8 ∷ []) ∷ [])) (lows (2 ∷ 3 ∷ 8 ∷ 9 ∷ []))
    ∷ turns (terms ((5 ∷ 11 ∷ []) ∷ (4 ∷ 10 ∷ []) ∷ [])) (lows (4 ∷ 5 ∷ 10 ∷ 11 ∷ []))
    ∷ turns (terms ((4 ∷ 11 ∷ []) ∷ (5 ∷ 10 ∷ []) ∷ [])) (lows (4 ∷ 5 ∷ 10 ∷ 11 ∷ []))
    ∷ turns (terms ((12 ∷ 14 ∷ []) ∷ [])) (lows (12 ∷ 13 ∷ 14 ∷ 15 ∷ []))
    ∷ turns (terms ((13 ∷ 15 ∷ []) ∷ (12 ∷ 15 ∷ []) ∷ (13 ∷ 14 ∷ []) ∷ [])) (lows (12 ∷ 13 ∷ 14 ∷ 15 ∷ []))
    ∷ turns (terms ((18 ∷ 16 ∷ []) ∷ [])) (lows (18 ∷ 19 ∷ 16 ∷ 17 ∷ []))
    ∷ turns (terms ((19 ∷ 17 ∷ []) ∷ (18 ∷ 17 ∷ []) ∷ (19 ∷ 16 ∷ []) ∷ [])) (lows (18 ∷ 19 ∷ 16 ∷ 17 ∷ []))
    ∷ []

equality : rules_at Eq 3 ≡ equality_rows
equality = refl

equality_result : result_at Eq 3 ≡ rails 20 21 ∷ []
equality_result = refl

-- the same gates
inequality : rules_at Ne 3 ≡ equality_rows
inequality = refl

inequality_result : result_at Ne 3 ≡ rails 21 20 ∷ []
inequality_result = refl

abbrev below_rows : List NodeRules
below_rows =
    turns (terms ((1 ∷ 6 ∷ []) ∷ [])) (lows (0 ∷ 1 ∷ 6 ∷ 7 ∷ []))
    ∷ turns (terms ((1 ∷ 7 ∷ []) ∷ (0 ∷ 7 ∷ []) ∷ (0 ∷ 6 ∷ []) ∷ [])) (lows (0 ∷ 1 ∷ 6 ∷ 7 ∷ []))
    ∷ turns (terms ((3 ∷ 8 ∷ 13 ∷ []) ∷ (3 ∷ 9 ∷ 12 ∷ []) ∷ (3 ∷ 8 ∷ 12 ∷ []) ∷ (2 ∷ 8 ∷ 12 ∷ []) ∷ [])) (lows (2 ∷ 3 ∷ 8 ∷ 9 ∷ 12 ∷ 13 ∷ []))
    ∷ turns (terms ((3 ∷ 9 ∷ 13 ∷ []) ∷ (2 ∷ 9 ∷ 13 ∷ []) ∷ (2 ∷ 8 ∷ 13 ∷ []) ∷ (2 ∷ 9 ∷ 12 ∷ []) ∷ [])) (lows (2 ∷ 3 ∷ 8 ∷ 9 ∷ 12 ∷ 13 ∷ []))
    ∷ turns (terms ((5 ∷ 10 ∷ 15 ∷ []) ∷ (5 ∷ 11 ∷ 14 ∷ []) ∷ (5 ∷ 10 ∷ 14 ∷ []) ∷ (4 ∷ 10 ∷ 14 ∷ []) ∷ [])) (lows (4 ∷ 5 ∷ 10 ∷ 11 ∷ 14 ∷ 15 ∷ []))
    ∷ turns (terms ((5 ∷ 11 ∷ 15 ∷ []) ∷ (4 ∷ 11 ∷ 15 ∷ []) ∷ (4 ∷ 10 ∷ 15 ∷ []) ∷ (4 ∷ 11 ∷ 14 ∷ []) ∷ [])) (lows (4 ∷ 5 ∷ 10 ∷ 11 ∷ 14 ∷ 15 ∷ []))
    ∷ []

below : rules_at Lt 3 ≡ below_rows
below = refl

below_result : result_at Lt 3 ≡ rails 16 17 ∷ []
below_result = refl

abbrev above_rows : List NodeRules
above_rows =
    turns (terms ((7 ∷ 0 ∷ []) ∷ [])) (lows (6 ∷ 7 ∷ 0 ∷ 1 ∷ []))
    ∷ turns (terms ((7 ∷ 1 ∷ []) ∷ (6 ∷ 1 ∷ []) ∷ (6 ∷ 0 ∷ []) ∷ [])) (lows (6 ∷ 7 ∷ 0 ∷ 1 ∷ []))
    ∷ turns (terms ((9 ∷ 2 ∷ 13 ∷ []) ∷ (9 ∷ 3 ∷ 12 ∷ []) ∷ (9 ∷ 2 ∷ 12 ∷ []) ∷ (8 ∷ 2 ∷ 12 ∷ []) ∷ [])) (lows (8 ∷ 9 ∷ 2 ∷ 3 ∷ 12 ∷ 13 ∷ []))
    ∷ turns (terms ((9 ∷ 3 ∷ 13 ∷ []) ∷ (8 ∷ 3 ∷ 13 ∷ []) ∷ (8 ∷ 2 ∷ 13 ∷ []) ∷ (8 ∷ 3 ∷ 12 ∷ []) ∷ [])) (lows (8 ∷ 9 ∷ 2 ∷ 3 ∷ 12 ∷ 13 ∷ []))
    ∷ turns (terms ((11 ∷ 4 ∷ 15 ∷ []) ∷ (11 ∷ 5 ∷ 14 ∷ []) ∷ (11 ∷ 4 ∷ 14 ∷ []) ∷ (10 ∷ 4 ∷ 14 ∷ []) ∷ [])) (lows (10 ∷ 11 ∷ 4 ∷ 5 ∷ 14 ∷ 15 ∷ []))
    ∷ turns (terms ((11 ∷ 5 ∷ 15 ∷ []) ∷ (10 ∷ 5 ∷ 15 ∷ []) ∷ (10 ∷ 4 ∷ 15 ∷ []) ∷ (10 ∷ 5 ∷ 14 ∷ []) ∷ [])) (lows (10 ∷ 11 ∷ 4 ∷ 5 ∷ 14 ∷ 15 ∷ []))
    ∷ []

above : rules_at Gt 3 ≡ above_rows
above = refl

above_result : result_at Gt 3 ≡ rails 16 17 ∷ []
above_result = refl

-- the same gates
at_most : rules_at Le 3 ≡ above_rows
at_most = refl

at_most_result : result_at Le 3 ≡ rails 17 16 ∷ []
at_most_result = refl

-- the same gates
at_least : rules_at Ge 3 ≡ below_rows
at_least = refl

at_least_result : result_at Ge 3 ≡ rails 17 16 ∷ []
at_least_result = refl
