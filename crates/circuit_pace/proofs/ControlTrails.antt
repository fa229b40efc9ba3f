-- Own moves of a core before a branch is under way: it asks for its guards, these rise, a latch is noted, and the guards' request falls.
--
-- P: the program; K: how many moves follow the falls of lines; N: the numbers of the core; g: the guards' gates; i: the branch whose latch is up;
-- s, q: spots; z: that a rule fires.
use Rattle.std.proofs.Common.{◌≡◌, Bool, true, false, refl, sym, ap, ◌∙◌, inl, inr, arith}
use Rattle.std.specs.Prelude.{not, ◌&&◌, if◌then◌else◌}
use Rattle.width_check.specs.Processes.{Choices, choice_count, TypedProgram}
use Rattle.function_blocks.specs.Rails.{one_rule_fires}
use Rattle.circuit_places.specs.Lines.{Seen}
use Rattle.circuit_places.specs.Heads.{Index, low_bits, bit_of, alone, told}
use Rattle.circuit_places.specs.Cores.{of_joined, of_ask, of_any, of_latch, of_start}
use Rattle.circuit_places.specs.Circuit.{GuardCells, GuardSpot, heads, guards_rule, guards_good}
use Rattle.circuit_places.proofs.HeadFacts.{bit_none, some_hot}
use Rattle.circuit_places.proofs.Flow.{Clean, not_both}
use Rattle.circuit_places.proofs.Meets.{GuardsMeet}
use Rattle.circuit_places.proofs.CoreControl.{called, evaluating, latched, Lock, noted, spread, lock_may}
use Rattle.circuit_places.proofs.CoreMoves.{own, guard, branch}
use Rattle.circuit_places.proofs.Places.{running, ChoiceAt, control_at}
use Rattle.round_time.specs.Longest.{guards_depth}
use Rattle.circuit_time.proofs.Trails.{Clearing}
use Rattle.circuit_time.proofs.OwnTrails.{GuardsOrdered}
use Rattle.circuit_time.proofs.TurnTrails.{wrapped}
use Rattle.circuit_pace.proofs.Never.{never}
use Rattle.circuit_pace.proofs.GuardTrails.{guards_asked, guards_released, guards_pair}
use Rattle.circuit_pace.proofs.CoreTrails.{CoreSpots, Numbers, core_can_is, own_apart, guard_apart, CoreEach, CoreLed}

pub start_still : (b n : Bool) → (if b then not b else (b && n)) ≡ true → ⊥
start_still true n e = cc e
start_still false n e = cc e

module _ (P : TypedProgram) (K : Clearing) (N : Numbers) (env : Seen) (clean : Clean P env) {again : Bool} {choices : Choices} where
  abbrev at_called : ChoiceAt again choices running
  at_called = control_at called

  abbrev at_guards : GuardCells choices → ChoiceAt again choices running
  at_guards g = control_at (evaluating g)

  abbrev at_latch : (l : Lock) (i : Index (choice_count choices)) (g : GuardCells choices)
      → lock_may l (alone i (heads choices g)) (told i (heads choices g)) ≡ true → ChoiceAt again choices running
  at_latch l i g h = control_at (latched l i g h)

  -- the guards' request rises
  pub ask_rises : CoreLed P K N env at_called (own of_ask)
  ask_rises = record { each = here; up = λ b z. never z; falls = λ b z. never b; less = omega arith }
    where
      here : (q : CoreSpots choices) → CoreEach P K N env at_called (own of_ask) q
      here (own of_joined) z plain = inr (own_apart (λ t. cc t), sym (core_can_is env at_called (own of_joined)) ∙ z, omega arith)
      here (own of_ask) z plain = never z
      here (own of_any) z plain = inr (own_apart (λ t. cc t), sym (core_can_is env at_called (own of_any)) ∙ z, omega arith)
      here (own (of_latch i)) z plain = absurd (not_both (bit_none i) (plain refl))
      here (own (of_start i)) z plain = absurd (start_still (bit_of i (low_bits (choice_count choices))) _ z)
      here (guard q) z plain = inl (let w = guards_asked (guards_depth choices) N.left choices (omega arith) env.bit q z in omega (arith, w))
      here (branch q) z plain = inr ((λ t. cc t), sym (core_can_is env at_called (branch q)) ∙ z, omega arith)

  -- their gates rise
  pub guard_rises : GuardsMeet P choices → GuardsOrdered choices → (g : GuardCells choices) → guards_good choices env.bit true g ≡ true
      → (s : GuardSpot choices)
      → one_rule_fires (guards_rule choices env.bit true g s) ≡ true → CoreLed P K N env (at_guards g) (guard s)
  guard_rises meets ordered g fit s e = record { each = here; up = λ b z. never z; falls = λ b z. never b; less = omega arith }
    where
      here : (q : CoreSpots choices) → CoreEach P K N env (at_guards g) (guard s) q
      here (own of_joined) z plain = inr ((λ t. cc t), sym (core_can_is env (at_guards g) (own of_joined)) ∙ z, omega arith)
      here (own of_ask) z plain = inr ((λ t. cc t), sym (core_can_is env (at_guards g) (own of_ask)) ∙ z, omega arith)
      here (own of_any) z plain = inr ((λ t. cc t), sym (core_can_is env (at_guards g) (own of_any)) ∙ z, omega arith)
      here (own (of_latch i)) z plain = absurd (not_both (bit_none i) (plain refl))
      here (own (of_start i)) z plain = absurd (start_still (bit_of i (low_bits (choice_count choices))) _ z)
      here (guard q) z plain = wrapped s q (guard s) (guard q) guard_apart _ _ _ _
          (guards_pair P (guards_depth choices) N.left choices (omega arith) meets ordered true env.bit clean.single g fit s e q z)
      here (branch q) z plain = inr ((λ t. cc t), sym (core_can_is env (at_guards g) (branch q)) ∙ z, omega arith)

  module _ (i : Index (choice_count choices)) (g : GuardCells choices) where
    -- that a latch is up is noted
    pub any_rises : (h : lock_may noted (alone i (heads choices g)) (told i (heads choices g)) ≡ true)
        → CoreLed P K N env (at_latch noted i g h) (own of_any)
    any_rises h = record { each = here; up = λ b z. never z; falls = λ b z. never b; less = omega arith }
      where
        here : (q : CoreSpots choices) → CoreEach P K N env (at_latch noted i g h) (own of_any) q
        here (own of_joined) z plain = inr (own_apart (λ t. cc t), sym (core_can_is env (at_latch noted i g h) (own of_joined)) ∙ z, omega arith)
        here (own of_ask) z plain = inl (omega arith)
        here (own of_any) z plain = absurd (not_both (ap not (some_hot i true)) z)
        here (own (of_latch k)) z plain = inr (own_apart (λ t. cc t), sym (core_can_is env (at_latch noted i g h) (own (of_latch k))) ∙ z, omega arith)
        here (own (of_start k)) z plain = inr (own_apart (λ t. cc t), sym (core_can_is env (at_latch noted i g h) (own (of_start k))) ∙ z, omega arith)
        here (guard q) z plain = inr ((λ t. cc t), sym (core_can_is env (at_latch noted i g h) (guard q)) ∙ z, omega arith)
        here (branch q) z plain = inr ((λ t. cc t), sym (core_can_is env (at_latch noted i g h) (branch q)) ∙ z, omega arith)

    -- the guards' request falls
    pub ask_falls : (h : lock_may spread (alone i (heads choices g)) (told i (heads choices g)) ≡ true)
        → CoreLed P K N env (at_latch spread i g h) (own of_ask)
    ask_falls h = record { each = here; up = λ b z. never z; falls = λ b z. never b; less = omega arith }
      where
        here : (q : CoreSpots choices) → CoreEach P K N env (at_latch spread i g h) (own of_ask) q
        here (own of_joined) z plain = inr (own_apart (λ t. cc t), sym (core_can_is env (at_latch spread i g h) (own of_joined)) ∙ z, omega arith)
        here (own of_ask) z plain = never z
        here (own of_any) z plain = inr (own_apart (λ t. cc t), sym (core_can_is env (at_latch spread i g h) (own of_any)) ∙ z, omega arith)
        here (own (of_latch k)) z plain = inr (own_apart (λ t. cc t), sym (core_can_is env (at_latch spread i g h) (own (of_latch k))) ∙ z, omega arith)
        here (own (of_start k)) z plain = inr (own_apart (λ t. cc t), sym (core_can_is env (at_latch spread i g h) (own (of_start k))) ∙ z, omega arith)
        here (guard q) z plain = inl (let w = guards_released (guards_depth choices) N.left choices (omega arith) env.bit g q z in omega (arith, w))
        here (branch q) z plain = inr ((λ t. cc t), sym (core_can_is env (at_latch spread i g h) (branch q)) ∙ z, omega arith)
