-- A variable of two bits with two write sites, written out by hand.
use Rattle.std.proofs.Common.{◌≡◌, true, false, ℕ, List, [], ◌∷◌, refl}
use Rattle.prs_core.specs.declared.rule.Literal.{Literal}
use Rattle.prs_core.specs.Nets.{GuardValue, NodeRules}
use Rattle.prs_core.specs.Pairs.{pairs_from}
use Rattle.cell_variable.specs.Variables.{variable_rules, all_written, high_first, write_answer}

abbrev hi : ℕ → Literal
hi node = record { node = node; high = true }

abbrev lo : ℕ → Literal
lo node = record { node = node; high = false }

abbrev all : List Literal → GuardValue
all literals = literals ∷ []

abbrev turns : (up down : GuardValue) → NodeRules
turns up down = record { up = up; down = down }

-- Bit 0 has the nodes 20 to 24, bit 1 the nodes 25 to 29, and 30 joins 24 and 29. The sites' rails are 1 to 4 and 5 to 8.
two_bits : variable_rules 2 20 (pairs_from 2 1 ∷ pairs_from 2 5 ∷ []) ≡
    turns (all (hi 22 ∷ lo 21 ∷ [])) (all (hi 23 ∷ []))
    ∷ turns (all (hi 23 ∷ lo 20 ∷ [])) (all (hi 22 ∷ []))
    ∷ turns ((hi 1 ∷ []) ∷ (hi 5 ∷ []) ∷ []) (all (lo 1 ∷ lo 5 ∷ []))
    ∷ turns ((hi 2 ∷ []) ∷ (hi 6 ∷ []) ∷ []) (all (lo 2 ∷ lo 6 ∷ []))
    ∷ turns ((hi 22 ∷ hi 20 ∷ []) ∷ (hi 23 ∷ hi 21 ∷ []) ∷ []) (all (lo 22 ∷ lo 23 ∷ []))
    ∷ turns (all (hi 27 ∷ lo 26 ∷ [])) (all (hi 28 ∷ []))
    ∷ turns (all (hi 28 ∷ lo 25 ∷ [])) (all (hi 27 ∷ []))
    ∷ turns ((hi 3 ∷ []) ∷ (hi 7 ∷ []) ∷ []) (all (lo 3 ∷ lo 7 ∷ []))
    ∷ turns ((hi 4 ∷ []) ∷ (hi 8 ∷ []) ∷ []) (all (lo 4 ∷ lo 8 ∷ []))
    ∷ turns ((hi 27 ∷ hi 25 ∷ []) ∷ (hi 28 ∷ hi 26 ∷ []) ∷ []) (all (lo 27 ∷ lo 28 ∷ []))
    ∷ turns (all (hi 24 ∷ hi 29 ∷ [])) (all (lo 24 ∷ lo 29 ∷ []))
    ∷ []
two_bits = refl

two_bits_top : all_written 2 20 ≡ 30
two_bits_top = refl

one_bit_top : all_written 1 20 ≡ 24
one_bit_top = refl

-- a variable that is never written has merges without rules
never_written : variable_rules 1 20 [] ≡
    turns (all (hi 22 ∷ lo 21 ∷ [])) (all (hi 23 ∷ []))
    ∷ turns (all (hi 23 ∷ lo 20 ∷ [])) (all (hi 22 ∷ []))
    ∷ turns [] []
    ∷ turns [] []
    ∷ turns ((hi 22 ∷ hi 20 ∷ []) ∷ (hi 23 ∷ hi 21 ∷ []) ∷ []) (all (lo 22 ∷ lo 23 ∷ []))
    ∷ []
never_written = refl

-- 5 is 101 in three bits
first_five : high_first 3 5 20 ≡ 20 ∷ 26 ∷ 30 ∷ []
first_five = refl

answers : write_answer 5 30 ≡ turns (all (hi 5 ∷ hi 30 ∷ [])) (all (lo 30 ∷ []))
answers = refl
