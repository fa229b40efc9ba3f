-- Own moves round the core of a guarded repetition: it calls for a turn, takes that back once its branch has answered, and answers where all guards are
-- false and let go; and those of its core there.
--
-- P: the program; K: how many moves follow the falls of lines; a: where the branch is; l: how far the latch of the end is known; g: the guards'
-- gates; i: a branch; s, q: spots; z: that a rule fires.
use Rattle.std.proofs.Common.{◌≡◌, ℕ, ◌+◌, ◌<◌, Bool, true, false, refl, sym, ◌∙◌, subst, inl, inr, arith}
use Rattle.std.specs.Prelude.{not, if◌then◌else◌, max}
use Rattle.std.proofs.Math.Nat.{le-max_right}
use Rattle.width_check.specs.Processes.{choosing, Choices, choice_count, TypedProgram}
use Rattle.function_blocks.specs.Rails.{one_rule_fires}
use Rattle.circuit_places.specs.Lines.{Seen}
use Rattle.circuit_places.specs.Heads.{Index, low_bits, bit_of, hot, nothing_true, all_neutral, alone, over}
use Rattle.circuit_places.specs.Cores.{of_joined, of_ask, of_any, of_latch, of_start, RoundSpot, of_answer, of_turn, of_leave}
use Rattle.circuit_places.specs.Circuit.{GuardCells, low_guards, GuardSpot, Spot, of_core, of_guard, of_choice, of_round, heads, guards_rule, guards_good, turned_guards, rule, flipped}
use Rattle.circuit_places.proofs.HeadFacts.{snd_true, bit_none, neutral_alone, neutral_over}
use Rattle.circuit_places.proofs.Flow.{Clean, Backed, cases, not_both}
use Rattle.circuit_places.proofs.Meets.{ChoiceMeets, GuardsMeet}
use Rattle.circuit_places.proofs.CoreControl.{uncalled, called, evaluating, latched, leaving, works, worked, reported, letting, backs, noted, spread, freed, Lock, lock_ask, lock_may, control_leave}
use Rattle.circuit_places.proofs.CoreMoves.{own, guard, branch}
use Rattle.circuit_places.proofs.ChoiceMoves.{spot_at}
use Rattle.circuit_places.proofs.Places.{Mode, running, answered, asks, At, at_turning, ChoiceAt, control_at, inside_at, ChosenAt, chosen_index, chosen_cells, choice_cells, choice_shown, choice_round, ChoiceFits, cells, moves, can_is, low_neutral}
use Rattle.round_time.specs.Longest.{guards_depth}
use Rattle.round_time.specs.Phases.{choices_first}
use Rattle.circuit_time.proofs.Trails.{Clearing, choice_back, latch_trail, guards_trail, trail}
use Rattle.circuit_time.proofs.Requests.{Plain}
use Rattle.circuit_time.proofs.Releases.{latch_among}
use Rattle.circuit_time.proofs.OwnTrails.{GuardsOrdered, Shorter, Led}
use Rattle.circuit_time.proofs.TurnTrails.{wrapped}
use Rattle.circuit_pace.proofs.Never.{never}
use Rattle.circuit_pace.proofs.GuardTrails.{guards_released, guards_pair}
use Rattle.circuit_pace.proofs.FreedTrails.{falls_before, rises_high}
use Rattle.circuit_pace.proofs.ControlTrails.{start_still}
use Rattle.circuit_pace.proofs.CoreTrails.{CoreSpots, ControlAt, turning, room_turning, core_can}
use Rattle.circuit_pace.proofs.StatementTrails.{core_apart, gate_apart, turn_plain, turning_led}
use Rattle.circuit_pace.proofs.PlaceTrails.{control_led}

module _ (P : TypedProgram) (K : Clearing) (held down : ℕ) (env : Seen) (clean : Clean P env) {choices : Choices} where
  abbrev Each : (a : At (choosing true choices) running) (s q : Spot (choosing true choices)) → Type 0
  Each a s q = one_rule_fires (rule (choosing true choices) env true (flipped (choosing true choices) (cells a) s) q) ≡ true
      → Plain (choosing true choices) (flipped (choosing true choices) (cells a) s) q
      → Shorter s q (moves env a q) (trail P K held down (choosing true choices) (flipped (choosing true choices) (cells a) s) q)
      (trail P K held down (choosing true choices) (cells a) q) (trail P K held down (choosing true choices) (cells a) s)

  abbrev rests_at : At (choosing true choices) running
  rests_at = at_turning (control_at uncalled)

  abbrev told_at : ChosenAt choices answered → At (choosing true choices) running
  told_at a = at_turning (inside_at a reported)

  abbrev left_at : (y : true ≡ true) (l : Lock) (g : GuardCells choices)
      → lock_may l (over (choice_count choices) (heads choices g)) (nothing_true (choice_count choices) (heads choices g)) ≡ true
      → At (choosing true choices) running
  left_at y l g h = at_turning (control_at (leaving y l g h))

  abbrev in_control : {m : Mode} → ControlAt true choices m → ChoiceAt true choices m
  in_control c = control_at c

  -- ---- the turn's request

  turn_rises : Led P K held down (choosing true choices) running env rests_at (of_round of_turn)
  turn_rises = record { each = here; up = λ b z. never z; falls = λ b z. never b; less = omega arith }
    where
      here : (q : Spot (choosing true choices)) → Each rests_at (of_round of_turn) q
      here (of_core of_joined) z plain = inr ((λ t. cc t), sym (can_is env rests_at (of_core of_joined)) ∙ z, omega arith)
      here (of_core of_ask) z plain = inl (omega arith)
      here (of_core of_any) z plain = inr ((λ t. cc t), sym (can_is env rests_at (of_core of_any)) ∙ z, omega arith)
      here (of_core (of_latch i)) z plain = absurd (not_both (bit_none i) (plain refl))
      here (of_core (of_start i)) z plain = absurd (start_still (bit_of i (low_bits (choice_count choices))) _ z)
      here (of_guard q) z plain = inr ((λ t. cc t), sym (can_is env rests_at (of_guard q)) ∙ z, omega arith)
      here (of_choice q) z plain = inr ((λ t. cc t), sym (can_is env rests_at (of_choice q)) ∙ z, omega arith)
      here (of_round of_answer) z plain = never z
      here (of_round of_turn) z plain = never z
      here (of_round of_leave) z plain = never (plain refl)

  turn_falls : (a : ChosenAt choices answered) → Led P K held down (choosing true choices) running env (told_at a) (of_round of_turn)
  turn_falls a = record { each = here; up = λ b z. never z; falls = λ b z. never b; less = omega arith }
    where
      latches : (i : Index (choice_count choices))
          → (if bit_of i (hot (chosen_index a) true) then not false else alone i (heads choices (low_guards choices))) ≡ true
          → latch_trail P K (3 + guards_depth choices) (3 + guards_depth choices) choices (chosen_cells a) i
          < choice_back P K (3 + guards_depth choices) (3 + guards_depth choices) choices (hot (chosen_index a) true) (chosen_cells a)
      latches i z = cases (bit_of i (hot (chosen_index a) true))
          (λ (h : bit_of i (hot (chosen_index a) true) ≡ true).
          latch_among P K (3 + guards_depth choices) (3 + guards_depth choices) choices (hot (chosen_index a) true) (chosen_cells a) i h)
          (λ (h : bit_of i (hot (chosen_index a) true) ≡ false). absurd (not_both (neutral_alone i (heads choices (low_guards choices)) (low_neutral choices))
          (subst (λ (c : Bool). (if c then not false else alone i (heads choices (low_guards choices))) ≡ true) h z)))

      here : (q : Spot (choosing true choices)) → Each (told_at a) (of_round of_turn) q
      here (of_core of_joined) z plain = inr ((λ t. cc t), sym (can_is env (told_at a) (of_core of_joined)) ∙ z, omega arith)
      here (of_core of_ask) z plain = never z
      here (of_core of_any) z plain = inr ((λ t. cc t), sym (can_is env (told_at a) (of_core of_any)) ∙ z, omega arith)
      here (of_core (of_latch i)) z plain = inl (latches i z)
      here (of_core (of_start i)) z plain = absurd (start_still (bit_of i (hot (chosen_index a) true)) _ z)
      here (of_guard q) z plain = inr ((λ t. cc t), sym (can_is env (told_at a) (of_guard q)) ∙ z, omega arith)
      here (of_choice q) z plain = inr ((λ t. cc t), sym (can_is env (told_at a) (of_choice q)) ∙ z, omega arith)
      here (of_round of_answer) z plain = never z
      here (of_round of_turn) z plain = never z
      here (of_round of_leave) z plain = never (plain refl)

  -- ---- where all guards were false

  module _ (y : true ≡ true) (g : GuardCells choices) where
    -- that the latch of the end is up is noted
    any_rises : (h : lock_may noted (over (choice_count choices) (heads choices g)) (nothing_true (choice_count choices) (heads choices g)) ≡ true)
        → Led P K held down (choosing true choices) running env (left_at y noted g h) (of_core of_any)
    any_rises h = record { each = here; up = λ b z. never z; falls = λ b z. never b; less = omega arith }
      where
        here : (q : Spot (choosing true choices)) → Each (left_at y noted g h) (of_core of_any) q
        here (of_core of_joined) z plain = inr (core_apart (λ t. cc t), sym (can_is env (left_at y noted g h) (of_core of_joined)) ∙ z, omega arith)
        here (of_core of_ask) z plain = inl (omega arith)
        here (of_core of_any) z plain = never z
        here (of_core (of_latch i)) z plain = absurd (not_both (bit_none i) (plain refl))
        here (of_core (of_start i)) z plain = absurd (start_still (bit_of i (low_bits (choice_count choices))) _ z)
        here (of_guard q) z plain = inr ((λ t. cc t), sym (can_is env (left_at y noted g h) (of_guard q)) ∙ z, omega arith)
        here (of_choice q) z plain = inr ((λ t. cc t), sym (can_is env (left_at y noted g h) (of_choice q)) ∙ z, omega arith)
        here (of_round of_answer) z plain = inr ((λ t. cc t), sym (can_is env (left_at y noted g h) (of_round of_answer)) ∙ z, omega arith)
        here (of_round of_turn) z plain = never z
        here (of_round of_leave) z plain = never z

    -- the guards' request falls
    ask_falls : (h : lock_may spread (over (choice_count choices) (heads choices g)) (nothing_true (choice_count choices) (heads choices g)) ≡ true)
        → Led P K held down (choosing true choices) running env (left_at y spread g h) (of_core of_ask)
    ask_falls h = record { each = here; up = λ b z. never z; falls = λ b z. never b; less = omega arith }
      where
        here : (q : Spot (choosing true choices)) → Each (left_at y spread g h) (of_core of_ask) q
        here (of_core of_joined) z plain = inr (core_apart (λ t. cc t), sym (can_is env (left_at y spread g h) (of_core of_joined)) ∙ z, omega arith)
        here (of_core of_ask) z plain = never z
        here (of_core of_any) z plain = inr (core_apart (λ t. cc t), sym (can_is env (left_at y spread g h) (of_core of_any)) ∙ z, omega arith)
        here (of_core (of_latch i)) z plain = absurd (not_both (bit_none i) (plain refl))
        here (of_core (of_start i)) z plain = absurd (start_still (bit_of i (low_bits (choice_count choices))) _ z)
        here (of_guard q) z plain =
            let w = guards_released (guards_depth choices) (max (choices_first P choices) (held + 5 + down)) choices (omega arith) env.bit g q z in
            inl (omega (arith, w))
        here (of_choice q) z plain = inr ((λ t. cc t), sym (can_is env (left_at y spread g h) (of_choice q)) ∙ z, omega arith)
        here (of_round of_answer) z plain = inr ((λ t. cc t), sym (can_is env (left_at y spread g h) (of_round of_answer)) ∙ z, omega arith)
        here (of_round of_turn) z plain = never z
        here (of_round of_leave) z plain = never z

    -- their gates
    guard_moves : GuardsMeet P choices → GuardsOrdered choices → (l : Lock)
        (h : lock_may l (over (choice_count choices) (heads choices g)) (nothing_true (choice_count choices) (heads choices g)) ≡ true)
        → guards_good choices env.bit (lock_ask l) g ≡ true → (s : GuardSpot choices) → one_rule_fires (guards_rule choices env.bit (lock_ask l) g s) ≡ true
        → Led P K held down (choosing true choices) running env (left_at y l g h) (of_guard s)
    guard_moves meets ordered l h fit s e = record { each = here; up = λ b z. never z; falls = λ b z. never b; less = omega arith }
      where
        answers : (b : Bool) → guards_good choices env.bit b g ≡ true → one_rule_fires (guards_rule choices env.bit b g s) ≡ true
            → all_neutral (choice_count choices) (heads choices (turned_guards choices g s)) ≡ true
            → Shorter (of_guard s) (of_round of_answer) (all_neutral (choice_count choices) (heads choices g)) (held + 4 + down) (held + 4 + down)
            (guards_trail (guards_depth choices) (max (choices_first P choices) (held + 5 + down)) choices g s)
        answers true fit e z = inr ((λ t. cc t), rises_high P choices meets env.bit clean.single g fit s e z, omega arith)
        answers false fit e z =
            let a = falls_before P (guards_depth choices) (max (choices_first P choices) (held + 5 + down)) choices meets env.bit clean.single g fit s e in
            let b = le-max_right (choices_first P choices) (held + 5 + down) in
            inl (omega (arith, a, b))

        here : (q : Spot (choosing true choices)) → Each (left_at y l g h) (of_guard s) q
        here (of_core of_joined) z plain = inr ((λ t. cc t), sym (can_is env (left_at y l g h) (of_core of_joined)) ∙ z, omega arith)
        here (of_core of_ask) z plain = inr ((λ t. cc t), sym (can_is env (left_at y l g h) (of_core of_ask)) ∙ z, omega arith)
        here (of_core of_any) z plain = inr ((λ t. cc t), sym (can_is env (left_at y l g h) (of_core of_any)) ∙ z, omega arith)
        here (of_core (of_latch i)) z plain = absurd (not_both (bit_none i) (plain refl))
        here (of_core (of_start i)) z plain = absurd (start_still (bit_of i (low_bits (choice_count choices))) _ z)
        here (of_guard q) z plain = wrapped s q (of_guard s) (of_guard q) gate_apart _ _ _ _
            (guards_pair P (guards_depth choices) (max (choices_first P choices) (held + 5 + down)) choices (omega arith) meets ordered (lock_ask l) env.bit
            clean.single g fit s e q z)
        here (of_choice q) z plain = inr ((λ t. cc t), sym (can_is env (left_at y l g h) (of_choice q)) ∙ z, omega arith)
        here (of_round of_answer) z plain = answers (lock_ask l) fit e z
        here (of_round of_turn) z plain = never z
        here (of_round of_leave) z plain = never z

    -- it answers
    answer_rises : (h : lock_may freed (over (choice_count choices) (heads choices g)) (nothing_true (choice_count choices) (heads choices g)) ≡ true)
        → Led P K held down (choosing true choices) running env (left_at y freed g h) (of_round of_answer)
    answer_rises h = record { each = here; up = λ b z. (omega arith, omega arith); falls = λ b z. never b; less = omega arith }
      where
        here : (q : Spot (choosing true choices)) → Each (left_at y freed g h) (of_round of_answer) q
        here (of_core of_joined) z plain = inr ((λ t. cc t), sym (can_is env (left_at y freed g h) (of_core of_joined)) ∙ z, omega arith)
        here (of_core of_ask) z plain = inr ((λ t. cc t), sym (can_is env (left_at y freed g h) (of_core of_ask)) ∙ z, omega arith)
        here (of_core of_any) z plain = never z
        here (of_core (of_latch i)) z plain = absurd (not_both (bit_none i) (plain refl))
        here (of_core (of_start i)) z plain = absurd (start_still (bit_of i (low_bits (choice_count choices))) _ z)
        here (of_guard q) z plain = inr ((λ t. cc t), sym (can_is env (left_at y freed g h) (of_guard q)) ∙ z, omega arith)
        here (of_choice q) z plain = inr ((λ t. cc t), sym (can_is env (left_at y freed g h) (of_choice q)) ∙ z, omega arith)
        here (of_round of_answer) z plain = never z
        here (of_round of_turn) z plain = never z
        here (of_round of_leave) z plain = never z

    -- all of them
    pub leaving_led : GuardsMeet P choices → GuardsOrdered choices → (l : Lock)
        (h : lock_may l (over (choice_count choices) (heads choices g)) (nothing_true (choice_count choices) (heads choices g)) ≡ true)
        → guards_good choices env.bit (lock_ask l) g ≡ true → (s : Spot (choosing true choices)) → moves env (left_at y l g h) s ≡ true
        → Led P K held down (choosing true choices) running env (left_at y l g h) s
    leaving_led meets ordered noted h f (of_core of_any) e = any_rises h
    leaving_led meets ordered spread h f (of_core of_any) e = never e
    leaving_led meets ordered freed h f (of_core of_any) e = never e
    leaving_led meets ordered noted h f (of_core of_ask) e = never e
    leaving_led meets ordered spread h f (of_core of_ask) e = ask_falls h
    leaving_led meets ordered freed h f (of_core of_ask) e = never e
    leaving_led meets ordered l h f (of_core of_joined) e = never e
    leaving_led meets ordered l h f (of_core (of_latch i)) e = never e
    leaving_led meets ordered l h f (of_core (of_start i)) e = never e
    leaving_led meets ordered l h f (of_guard s) e = guard_moves meets ordered l h f s e
    leaving_led meets ordered l h f (of_choice s) e = never e
    leaving_led meets ordered freed h f (of_round of_answer) e = answer_rises h
    leaving_led meets ordered noted h f (of_round of_answer) e = absurd (not_both (neutral_over (choice_count choices) (heads choices g) e)
        (snd_true (nothing_true (choice_count choices) (heads choices g)) _ h))
    leaving_led meets ordered spread h f (of_round of_answer) e = absurd (not_both (neutral_over (choice_count choices) (heads choices g) e)
        (snd_true (nothing_true (choice_count choices) (heads choices g)) _ h))
    leaving_led meets ordered l h f (of_round of_turn) e = never e
    leaving_led meets ordered l h f (of_round of_leave) e = never e

  -- ---- all moves before a branch is under way, and all round the core

  before_led : GuardsMeet P choices → ChoiceMeets P choices → GuardsOrdered choices → {m : Mode} (c : ControlAt true choices m) → control_leave c ≡ false
      → (s : CoreSpots choices) → ChoiceFits (in_control c) env → Backed (choosing true choices) (choice_shown (in_control c)) env
      → core_can env (in_control c) s ≡ true → Plain (choosing true choices) (cells (at_turning (in_control c))) (spot_at true s)
      → Led P K held down (choosing true choices) running env (at_turning (in_control c)) (spot_at true s)
  before_led guards meets ordered {m = m} c h s f behind e plain =
      turning_led P K held down env (in_control c) h s (control_led P K (turning P held down choices) env clean (room_turning P held down choices) guards meets
      ordered c h s f behind e (turn_plain P K held down env (asks m) (control_leave c) (choice_cells (in_control c)) s plain))

  pub called_led : GuardsMeet P choices → ChoiceMeets P choices → GuardsOrdered choices → {m : Mode} (c : ControlAt true choices m) (s : CoreSpots choices)
      → ChoiceFits (in_control c) env → Backed (choosing true choices) (choice_shown (in_control c)) env → core_can env (in_control c) s ≡ true
      → Plain (choosing true choices) (cells (at_turning (in_control c))) (spot_at true s)
      → Led P K held down (choosing true choices) running env (at_turning (in_control c)) (spot_at true s)
  called_led guards meets ordered uncalled s f behind e plain = before_led guards meets ordered uncalled refl s f behind e plain
  called_led guards meets ordered called s f behind e plain = before_led guards meets ordered called refl s f behind e plain
  called_led guards meets ordered (evaluating g) s f behind e plain = before_led guards meets ordered (evaluating g) refl s f behind e plain
  called_led guards meets ordered (latched l i g h) s f behind e plain = before_led guards meets ordered (latched l i g h) refl s f behind e plain
  called_led guards meets ordered (leaving y l g h) (own s) f behind e plain = leaving_led y g guards ordered l h f (of_core s) e
  called_led guards meets ordered (leaving y l g h) (guard s) f behind e plain = leaving_led y g guards ordered l h f (of_guard s) e
  called_led guards meets ordered (leaving y l g h) (branch s) f behind e plain = never e

  pub round_led : GuardsMeet P choices → GuardsOrdered choices → {m : Mode} (x : ChoiceAt true choices m) (s : RoundSpot) → ChoiceFits x env
      → choice_round x s ≡ true → Plain (choosing true choices) (cells (at_turning x)) (of_round s)
      → Led P K held down (choosing true choices) running env (at_turning x) (of_round s)
  round_led meets ordered (control_at uncalled) of_turn f e plain = turn_rises
  round_led meets ordered (control_at uncalled) of_answer f e plain = never e
  round_led meets ordered (control_at uncalled) of_leave f e plain = never e
  round_led meets ordered (control_at called) s f e plain = never e
  round_led meets ordered (control_at (evaluating g)) of_leave f e plain = never (plain refl)
  round_led meets ordered (control_at (evaluating g)) of_turn f e plain = never e
  round_led meets ordered (control_at (evaluating g)) of_answer f e plain = never e
  round_led meets ordered (control_at (latched l i g h)) s f e plain = never e
  round_led meets ordered (control_at (leaving y l g h)) s f e plain = leaving_led y g meets ordered l h f (of_round s) e
  round_led meets ordered (inside_at a works) s f e plain = never e
  round_led meets ordered (inside_at a worked) s f e plain = never e
  round_led meets ordered (inside_at a reported) of_turn f e plain = turn_falls a
  round_led meets ordered (inside_at a reported) of_answer f e plain = never e
  round_led meets ordered (inside_at a reported) of_leave f e plain = never e
  round_led meets ordered (inside_at a letting) s f e plain = never e
  round_led meets ordered (inside_at a (backs any h)) s f e plain = never e
