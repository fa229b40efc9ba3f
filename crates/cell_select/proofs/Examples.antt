-- A selection and a guarded repetition of two guards, written out by hand.
use Rattle.std.proofs.Common.{◌≡◌, true, false, ℕ, List, [], ◌∷◌, refl}
use Rattle.prs_core.specs.declared.rule.Literal.{Literal}
use Rattle.prs_core.specs.Nets.{GuardValue, NodeRules}
use Rattle.prs_core.specs.Pairs.{pairs_from}
use Rattle.cell_select.specs.Selections.{Choosing, Repeating, select_rules, again_rules}

abbrev hi : ℕ → Literal
hi node = record { node = node; high = true }

abbrev lo : ℕ → Literal
lo node = record { node = node; high = false }

abbrev all : List Literal → GuardValue
all literals = literals ∷ []

abbrev turns : (up down : GuardValue) → NodeRules
turns up down = record { up = up; down = down }

-- Under the request 5; the own nodes are the answer 10, the request of the guards 11, the node 12 that says that a latch
-- is up, the latches 13 and 14 and the starts 15 and 16. The guards' rails are 20, 21 and 22, 23, the branches' answers 30
-- and 31.
abbrev two_guards : Choosing
two_guards = record { request = 5; any = 12; latched = 13 ∷ 14 ∷ []; guards = pairs_from 2 20; answers = 30 ∷ 31 ∷ [] }

selects : select_rules two_guards ≡
    turns ((hi 30 ∷ []) ∷ (hi 31 ∷ []) ∷ []) (all (lo 12 ∷ lo 30 ∷ lo 31 ∷ []))
    ∷ turns (all (hi 5 ∷ lo 12 ∷ [])) (all (hi 12 ∷ []))
    ∷ turns ((hi 13 ∷ []) ∷ (hi 14 ∷ []) ∷ []) (all (lo 13 ∷ lo 14 ∷ []))
    ∷ turns (all (hi 20 ∷ hi 23 ∷ [])) (all (lo 5 ∷ []))
    ∷ turns (all (hi 21 ∷ hi 22 ∷ [])) (all (lo 5 ∷ []))
    ∷ turns (all (hi 13 ∷ lo 20 ∷ lo 21 ∷ lo 22 ∷ lo 23 ∷ [])) (all (lo 13 ∷ []))
    ∷ turns (all (hi 14 ∷ lo 20 ∷ lo 21 ∷ lo 22 ∷ lo 23 ∷ [])) (all (lo 14 ∷ []))
    ∷ []
selects = refl

-- Under the request 5; the own nodes are the answer 10, the request of a turn 11, the joined answers 12, the request of the
-- guards 13, the node 14 that says that a latch is up, the latch 15 of the end, the latches 16 and 17 and the starts 18
-- and 19.
abbrev two_turns : Repeating
two_turns = record {
  request = 5;
  joined = 12;
  leave = 15;
  turn = record { request = 11; any = 14; latched = 16 ∷ 17 ∷ []; guards = pairs_from 2 20; answers = 30 ∷ 31 ∷ [] };
}

repeats : again_rules two_turns ≡
    turns (all (hi 15 ∷ lo 20 ∷ lo 21 ∷ lo 22 ∷ lo 23 ∷ [])) (all (lo 14 ∷ []))
    ∷ turns (all (hi 5 ∷ lo 12 ∷ [])) ((hi 12 ∷ []) ∷ (lo 5 ∷ []) ∷ [])
    ∷ turns ((hi 30 ∷ []) ∷ (hi 31 ∷ []) ∷ []) (all (lo 14 ∷ lo 30 ∷ lo 31 ∷ []))
    ∷ turns (all (hi 11 ∷ lo 14 ∷ [])) (all (hi 14 ∷ []))
    ∷ turns ((hi 15 ∷ []) ∷ (hi 16 ∷ []) ∷ (hi 17 ∷ []) ∷ []) (all (lo 15 ∷ lo 16 ∷ lo 17 ∷ []))
    ∷ turns (all (hi 21 ∷ hi 23 ∷ [])) (all (lo 11 ∷ []))
    ∷ turns (all (hi 20 ∷ hi 23 ∷ [])) (all (lo 11 ∷ []))
    ∷ turns (all (hi 21 ∷ hi 22 ∷ [])) (all (lo 11 ∷ []))
    ∷ turns (all (hi 16 ∷ lo 20 ∷ lo 21 ∷ lo 22 ∷ lo 23 ∷ [])) (all (lo 16 ∷ []))
    ∷ turns (all (hi 17 ∷ lo 20 ∷ lo 21 ∷ lo 22 ∷ lo 23 ∷ [])) (all (lo 17 ∷ []))
    ∷ []
repeats = refl
