-- Own moves of a core whose latch is up: of the gates of its guards, and of the start of its branch.
--
-- P: the program; K: how many moves follow the falls of lines; N: the numbers of the core; l: how far the latch is known; i: its branch; g: the
-- guards' gates; s, q: spots; z: that a rule fires.
use Rattle.std.proofs.Common.{◌≡◌, Bool, true, false, refl, sym, ap, ◌∙◌, subst, inl, inr, arith}
use Rattle.std.specs.Prelude.{not, ◌&&◌, if◌then◌else◌}
use Rattle.width_check.specs.Processes.{Choices, choice_count, TypedProgram}
use Rattle.function_blocks.specs.Rails.{one_rule_fires}
use Rattle.circuit_places.specs.Lines.{Seen}
use Rattle.circuit_places.specs.Heads.{Index, Bits, low_bits, bit_of, turned_bit, hot, all_neutral, alone, told}
use Rattle.circuit_places.specs.Cores.{of_joined, of_ask, of_any, of_latch, of_start}
use Rattle.circuit_places.specs.Circuit.{GuardCells, low_choices, GuardSpot, heads, guards_rule, guards_good, turned_guards}
use Rattle.circuit_places.proofs.HeadFacts.{fst_true, snd_true, both_true, bit_none, bit_hot, hot_is, hot_up}
use Rattle.circuit_places.proofs.Flow.{Clean, not_both}
use Rattle.circuit_places.proofs.Meets.{ChoiceMeets, GuardsMeet}
use Rattle.circuit_places.proofs.Begin.{ChoiceQuiet}
use Rattle.circuit_places.proofs.CoreControl.{latched, Lock, lock_ask, lock_may}
use Rattle.circuit_places.proofs.CoreMoves.{own, guard, branch}
use Rattle.circuit_places.proofs.Places.{running, ChoiceAt, control_at}
use Rattle.round_time.specs.Longest.{guards_depth}
use Rattle.circuit_time.proofs.Trails.{Clearing, guards_trail, start_trail}
use Rattle.circuit_time.proofs.OwnTrails.{GuardsOrdered, Shorter}
use Rattle.circuit_time.proofs.TurnTrails.{wrapped}
use Rattle.circuit_pace.proofs.Never.{never}
use Rattle.circuit_pace.proofs.GuardTrails.{guards_pair}
use Rattle.circuit_pace.proofs.FreedTrails.{falls_before, rises_high, start_asks, start_within}
use Rattle.circuit_pace.proofs.CoreTrails.{CoreSpots, Numbers, Room, core_can_is, own_in, guard_in, own_apart, guard_apart, CoreEach, CoreLed}

latch_still : (b n : Bool) → (if b then not true else n) ≡ true → b ≡ true → ⊥
latch_still true n z e = cc z
latch_still false n z e = cc e

module _ (P : TypedProgram) (K : Clearing) (N : Numbers) (env : Seen) (clean : Clean P env) {again : Bool} {choices : Choices} (l : Lock)
    (i : Index (choice_count choices)) (g : GuardCells choices) (h : lock_may l (alone i (heads choices g)) (told i (heads choices g)) ≡ true) where
  abbrev here_at : ChoiceAt again choices running
  here_at = control_at (latched l i g h)

  -- the gates of its guards
  pub guard_moves : Room P N choices → GuardsMeet P choices → GuardsOrdered choices → guards_good choices env.bit (lock_ask l) g ≡ true
      → (s : GuardSpot choices)
      → one_rule_fires (guards_rule choices env.bit (lock_ask l) g s) ≡ true → CoreLed P K N env here_at (guard s)
  guard_moves room meets ordered fit s e = record { each = here; up = λ b z. never z; falls = λ b z. never b; less = omega arith }
    where
      start : (b : Bool) → guards_good choices env.bit b g ≡ true → one_rule_fires (guards_rule choices env.bit b g s) ≡ true
          → (k : Index (choice_count choices))
          → (if bit_of k (low_bits (choice_count choices)) then not (bit_of k (hot i true))
          else (bit_of k (hot i true) && all_neutral (choice_count choices) (heads choices (turned_guards choices g s)))) ≡ true
          → Shorter (guard_in choices s) (own_in choices (of_start k)) (bit_of k (hot i true) && all_neutral (choice_count choices) (heads choices g))
          (start_trail P K N.any choices (low_bits (choice_count choices)) (low_choices choices) k)
          (start_trail P K N.any choices (low_bits (choice_count choices)) (low_choices choices) k)
          (guards_trail (guards_depth choices) N.left choices g s)
      start b fit e k z = by b fit e (subst (λ (c : Bool). (if c then not (bit_of k (hot i true))
          else (bit_of k (hot i true) && all_neutral (choice_count choices) (heads choices (turned_guards choices g s)))) ≡ true) (bit_none k) z)
        where
          by : (b : Bool) → guards_good choices env.bit b g ≡ true → one_rule_fires (guards_rule choices env.bit b g s) ≡ true
              → (bit_of k (hot i true) && all_neutral (choice_count choices) (heads choices (turned_guards choices g s))) ≡ true
              → Shorter (guard_in choices s) (own_in choices (of_start k)) (bit_of k (hot i true) && all_neutral (choice_count choices) (heads choices g))
              (start_trail P K N.any choices (low_bits (choice_count choices)) (low_choices choices) k)
              (start_trail P K N.any choices (low_bits (choice_count choices)) (low_choices choices) k)
              (guards_trail (guards_depth choices) N.left choices g s)
          by true fit e z = inr (
            (λ t. cc t),
            both_true (bit_of k (hot i true)) (all_neutral (choice_count choices) (heads choices g)) (fst_true _ _ z)
                (rises_high P choices meets env.bit clean.single g fit s e (snd_true _ _ z)),
            omega arith,
          )
          by false fit e z =
              let a = falls_before P (guards_depth choices) N.left choices meets env.bit clean.single g fit s e in
              let b = start_within P K N.any choices (low_choices choices) k (low_bits (choice_count choices)) (bit_none k) in
              let r = room.ahead in
              inl (omega (arith, a, b, r))

      here : (q : CoreSpots choices) → CoreEach P K N env here_at (guard s) q
      here (own of_joined) z plain = inr ((λ t. cc t), sym (core_can_is env here_at (own of_joined)) ∙ z, omega arith)
      here (own of_ask) z plain = inr ((λ t. cc t), sym (core_can_is env here_at (own of_ask)) ∙ z, omega arith)
      here (own of_any) z plain = inr ((λ t. cc t), sym (core_can_is env here_at (own of_any)) ∙ z, omega arith)
      here (own (of_latch k)) z plain = absurd (latch_still (bit_of k (hot i true)) _ z (plain refl))
      here (own (of_start k)) z plain = start (lock_ask l) fit e k z
      here (guard q) z plain = wrapped s q (guard s) (guard q) guard_apart _ _ _ _
          (guards_pair P (guards_depth choices) N.left choices (omega arith) meets ordered (lock_ask l) env.bit clean.single g fit s e q z)
      here (branch q) z plain = inr ((λ t. cc t), sym (core_can_is env here_at (branch q)) ∙ z, omega arith)

  -- the start of its branch
  pub start_rises : ChoiceMeets P choices → ChoiceQuiet choices env → (k : Index (choice_count choices))
      → (bit_of k (hot i true) && all_neutral (choice_count choices) (heads choices g)) ≡ true → CoreLed P K N env here_at (own (of_start k))
  start_rises meets quiet k e = record { each = here; up = λ b z. never z; falls = λ b z. never b; less = omega arith }
    where
      at_k : k ≡ i
      at_k = (hot_is i k true (fst_true _ _ e)).0

      once : (j : Index (choice_count choices)) (b c : Bool) → bit_of j (hot i true) ≡ b → bit_of j (turned_bit k (low_bits (choice_count choices))) ≡ c
          → (if c then not b else (b && all_neutral (choice_count choices) (heads choices g))) ≡ true → ⊥
      once j true true u v z = cc z
      once j false false u v z = cc z
      once j true false u v z =
          let same : j ≡ k = (hot_is i j true u).0 ∙ sym at_k in
          not_both v (ap (λ (y : Bits (choice_count choices)). bit_of j y) (sym (hot_up k))
          ∙ (ap (λ (y : Index (choice_count choices)). bit_of y (hot k true)) same ∙ bit_hot k true))
      once j false true u v z =
          let same : j ≡ i = (hot_is k j true (ap (λ (y : Bits (choice_count choices)). bit_of j y) (hot_up k) ∙ v)).0 ∙ at_k in
          not_both u (ap (λ (y : Index (choice_count choices)). bit_of y (hot i true)) same ∙ bit_hot i true)

      here : (q : CoreSpots choices) → CoreEach P K N env here_at (own (of_start k)) q
      here (own of_joined) z plain = inr (own_apart (λ t. cc t), sym (core_can_is env here_at (own of_joined)) ∙ z, omega arith)
      here (own of_ask) z plain = inr (own_apart (λ t. cc t), sym (core_can_is env here_at (own of_ask)) ∙ z, omega arith)
      here (own of_any) z plain = inr (own_apart (λ t. cc t), sym (core_can_is env here_at (own of_any)) ∙ z, omega arith)
      here (own (of_latch j)) z plain = inr (own_apart (λ t. cc t), sym (core_can_is env here_at (own (of_latch j))) ∙ z, omega arith)
      here (own (of_start j)) z plain =
          absurd (once j (bit_of j (hot i true)) (bit_of j (turned_bit k (low_bits (choice_count choices)))) refl refl z)
      here (guard q) z plain = inr ((λ t. cc t), sym (core_can_is env here_at (guard q)) ∙ z, omega arith)
      here (branch q) z plain = let a = start_asks P K N.holds N.any choices k env meets quiet q z plain in inl (omega (arith, a))
