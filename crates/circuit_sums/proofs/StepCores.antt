-- What is said of a step of a selection or of a guarded repetition: a latch rises, or that of the end, or the branch steps that is under way.
--
-- P: the program; K: how many moves follow the falls of lines; N: the numbers of a core; x: where it is; y: the values of its nodes then; g: the guards'
-- gates; i: a branch; a: where the branch is that is under way; s, q: spots; n: how many moves; z: that a rule fires; l: what is said of the branch's step.
use Rattle.std.proofs.Common.{◌≡◌, ℕ, suc, ◌+◌, ◌≤◌, Bool, true, false, refl, sym, ap, ◌∙◌, inl, inr, arith}
use Rattle.std.specs.Prelude.{not, ◌&&◌, ◌||◌, if◌then◌else◌, max}
use Rattle.std.proofs.Math.Nat.{max-le}
use Rattle.width_check.specs.Processes.{Formula, Process, choosing, Choices, and_choice, choice_count, TypedProgram}
use Rattle.function_blocks.specs.Rails.{one_rule_fires}
use Rattle.circuit_places.specs.Lines.{Seen}
use Rattle.circuit_places.specs.Heads.{Index, Bits, low_bits, bit_of, some_bit, turned_bit, hot, all_neutral, alone, over}
use Rattle.circuit_places.specs.Cores.{of_joined, of_ask, of_any, of_latch, of_start, of_answer, of_turn, of_leave, turning_of}
use Rattle.circuit_places.specs.Circuit.{GuardCells, Spot, ChoiceSpot, this_choice, other_choice, of_core, of_guard, of_choice, of_round, heads, answer, choice_answers, rule, choice_rule, flipped, turned_choice}
use Rattle.circuit_places.proofs.HeadFacts.{bit_none, some_hot, neutral_alone, neutral_over}
use Rattle.circuit_places.proofs.Flow.{cases, not_both}
use Rattle.circuit_places.proofs.CoreControl.{evaluating, works}
use Rattle.circuit_places.proofs.CoreMoves.{own, guard, branch}
use Rattle.circuit_places.proofs.ChoiceMoves.{spot_at}
use Rattle.circuit_places.proofs.Places.{running, At, at_choice, at_turning, ChoiceAt, control_at, inside_at, ChosenAt, this_one, another, chosen_index, cells, choice_cells, chosen_cells, moves, chosen_moves, can_is, low_choice_answers, low_answer, low_quiet, low_choice_quiet}
use Rattle.circuit_places.proofs.StillSteps.{choice_rises, choice_value}
use Rattle.round_time.specs.Phases.{latch_phase}
use Rattle.circuit_time.proofs.Trails.{Clearing, trail, choice_trail}
use Rattle.circuit_time.proofs.Requests.{Plain}
use Rattle.circuit_time.proofs.OwnTrails.{Shorter}
use Rattle.circuit_time.proofs.TurnTrails.{wrapped}
use Rattle.circuit_pace.proofs.Never.{never}
use Rattle.circuit_pace.proofs.CoreTrails.{CoreCells, CoreSpots, Numbers, selecting, turning, Room, core_trail, core_spot_rule, core_turned, CorePlain, core_can, core_can_is, branch_apart, spot_apart}
use Rattle.circuit_pace.proofs.ChosenTrails.{this_apart, other_apart, arm_back, one_latch}
use Rattle.circuit_sums.proofs.StepTrails.{Stepped}

-- a latch that is up stays up under the request, and a start that is low stays low while a guard has a rail high
latch_holds : (b u : Bool) → b ≡ true → (if b then false else u) ≡ true → ⊥
latch_holds true u e z = cc z
latch_holds false u e z = cc e

start_holds : (b l u : Bool) → b ≡ false → u ≡ false → (if b then not l else l && u) ≡ true → ⊥
start_holds true l u e h z = cc e
start_holds false true u e h z = not_both h z
start_holds false false u e h z = cc z

module _ (P : TypedProgram) (K : Clearing) (env : Seen) where
  module _ (N : Numbers) (again : Bool) {choices : Choices} where
    -- of a core whose latch of the end is low, which has these values then
    abbrev pub CoreStep : (x : ChoiceAt again choices running) (y : CoreCells choices) (s : CoreSpots choices) (n : ℕ) → (q : CoreSpots choices) → Type 0
    CoreStep x y s n q = one_rule_fires (core_spot_rule choices env true false y q) ≡ true → CorePlain choices y q
        → Shorter s q (core_can env x q) (core_trail P K N choices y q) (core_trail P K N choices (choice_cells x) q) n

    pub latch_rises : (g : GuardCells choices) (i : Index (choice_count choices)) → alone i (heads choices g) ≡ true → (q : CoreSpots choices)
        → CoreStep (control_at (evaluating g)) (core_turned choices (choice_cells {again = again} (control_at (evaluating g))) (own (of_latch i)))
        (own (of_latch i)) (latch_phase N.left choices) q
    latch_rises g i e (own of_joined) z plain = never (sym (core_can_is {again = again} env (control_at (evaluating g)) (own of_joined)) ∙ z)
    latch_rises g i e (own of_ask) z plain = never (sym (core_can_is {again = again} env (control_at (evaluating g)) (own of_ask)) ∙ z)
    latch_rises g i e (own of_any) z plain = inl (omega arith)
    latch_rises g i e (own (of_latch j)) z plain =
        absurd (latch_holds (bit_of j (turned_bit i (low_bits (choice_count choices)))) (alone j (heads choices g)) (plain refl) z)
    latch_rises g i e (own (of_start j)) z plain =
        absurd (start_holds (bit_of j (low_bits (choice_count choices))) (bit_of j (turned_bit i (low_bits (choice_count choices))))
        (all_neutral (choice_count choices) (heads choices g)) (bit_none j) busy z)
      where
        busy : all_neutral (choice_count choices) (heads choices g) ≡ false
        busy = cases (all_neutral (choice_count choices) (heads choices g))
            (λ (h : all_neutral (choice_count choices) (heads choices g) ≡ true). absurd (not_both (neutral_alone i (heads choices g) h) e))
            (λ (h : all_neutral (choice_count choices) (heads choices g) ≡ false). h)
    latch_rises g i e (guard q) z plain =
        inr ((λ t. cc t), sym (core_can_is {again = again} env (control_at (evaluating g)) (guard q)) ∙ z, omega arith)
    latch_rises g i e (branch q) z plain = never (sym (core_can_is {again = again} env (control_at (evaluating g)) (branch q)) ∙ z)

  -- what is said of the step of the branch
  pub record ChosenStepped (held down : ℕ) (cs : Choices) (a : ChosenAt cs running) (s : ChoiceSpot cs) (n : ℕ) : Type 0 where
    pub each : (q : ChoiceSpot cs) → one_rule_fires (choice_rule cs env (hot (chosen_index a) true) (turned_choice cs (chosen_cells a) s) q) ≡ true
        → (choice_rises q ≡ true → choice_value cs (turned_choice cs (chosen_cells a) s) q ≡ true)
        → Shorter s q (chosen_moves env a q) (choice_trail P K held down cs (turned_choice cs (chosen_cells a) s) q)
        (choice_trail P K held down cs (chosen_cells a) q) n
    pub says : Bool
    pub only : choice_answers cs (turned_choice cs (chosen_cells a) s) ≡ hot (chosen_index a) says
    pub up : says ≡ true → (held + arm_back P K down cs (turned_choice cs (chosen_cells a) s) (chosen_index a) ≤ n)
        × (suc down ≤ arm_back P K down cs (turned_choice cs (chosen_cells a) s) (chosen_index a))

  pub this_chosen : (held down : ℕ) {g : Formula} {p : Process} {more : Choices} (a : At p running) (s : Spot p) (n : ℕ) → Stepped P K held down p env a s n
      → ChosenStepped held down (and_choice g p more) (this_one a) (this_choice s) n
  this_chosen held down {g = g} {p = p} {more = more} a s n l = record {
    each = here;
    says = answer p (flipped p (cells a) s);
    only = ap (λ (y : Bits (choice_count more)). (answer p (flipped p (cells a) s), y)) (low_choice_answers more);
    up = l.up;
  }
    where
      here : (q : ChoiceSpot (and_choice g p more))
          → one_rule_fires (choice_rule (and_choice g p more) env (hot (chosen_index (this_one {g = g} {more = more} a)) true)
          (turned_choice (and_choice g p more) (chosen_cells (this_one {g = g} {more = more} a)) (this_choice s)) q) ≡ true
          → (choice_rises q ≡ true → choice_value (and_choice g p more) (turned_choice (and_choice g p more)
          (chosen_cells (this_one {g = g} {more = more} a)) (this_choice s)) q ≡ true)
          → Shorter (this_choice s) q (chosen_moves env (this_one {g = g} {more = more} a) q)
          (choice_trail P K held down (and_choice g p more) (turned_choice (and_choice g p more) (chosen_cells (this_one {g = g} {more = more} a))
          (this_choice s)) q)
          (choice_trail P K held down (and_choice g p more) (chosen_cells (this_one {g = g} {more = more} a)) q) n
      here (this_choice q) z plain = wrapped s q (this_choice s) (this_choice q) this_apart (moves env a q) _ _ _ (l.each q z plain)
      here (other_choice q) z plain = absurd (not_both (low_choice_quiet more env q) z)

  pub other_chosen : (held down : ℕ) {g : Formula} {p : Process} {more : Choices} (a : ChosenAt more running) (s : ChoiceSpot more) (n : ℕ)
      → ChosenStepped held down more a s n → ChosenStepped held down (and_choice g p more) (another a) (other_choice s) n
  other_chosen held down {g = g} {p = p} {more = more} a s n l = record {
    each = here;
    says = l.says;
    only = ap (λ (b : Bool). (b, choice_answers more (turned_choice more (chosen_cells a) s))) (low_answer p)
        ∙ ap (λ (y : Bits (choice_count more)). (false, y)) l.only;
    up = l.up;
  }
    where
      here : (q : ChoiceSpot (and_choice g p more))
          → one_rule_fires (choice_rule (and_choice g p more) env (hot (chosen_index (another {g = g} {p = p} a)) true)
          (turned_choice (and_choice g p more) (chosen_cells (another {g = g} {p = p} a)) (other_choice s)) q) ≡ true
          → (choice_rises q ≡ true → choice_value (and_choice g p more) (turned_choice (and_choice g p more)
          (chosen_cells (another {g = g} {p = p} a)) (other_choice s)) q ≡ true)
          → Shorter (other_choice s) q (chosen_moves env (another {g = g} {p = p} a) q)
          (choice_trail P K held down (and_choice g p more) (turned_choice (and_choice g p more) (chosen_cells (another {g = g} {p = p} a)) (other_choice s)) q)
          (choice_trail P K held down (and_choice g p more) (chosen_cells (another {g = g} {p = p} a)) q) n
      here (this_choice q) z plain = absurd (not_both (low_quiet p env q) z)
      here (other_choice q) z plain = wrapped s q (other_choice s) (other_choice q) other_apart (chosen_moves env a q) _ _ _ (l.each q z plain)

  module _ (N : Numbers) (again : Bool) {choices : Choices} where
    -- its core then joins its answer
    pub branch_steps : Room P N choices → (a : ChosenAt choices running) (s : ChoiceSpot choices) (n : ℕ) → ChosenStepped N.holds N.any choices a s n
        → (q : CoreSpots choices)
        → CoreStep N again (inside_at a works) (core_turned choices (choice_cells {again = again} (inside_at a works)) (branch s)) (branch s) n q
    branch_steps room a s n l (own of_joined) z plain =
        let says = sym (ap (some_bit (choice_count choices)) l.only ∙ some_hot (chosen_index a) l.says) ∙ z in
        let u = l.up says in
        let b = u.0 in
        let c = u.1 in
        let r = room.held in
        let o = one_latch P K N.any N.any choices (chosen_index a) (turned_choice choices (chosen_cells a) s) in
        let m : max (2 + arm_back P K N.any choices (turned_choice choices (chosen_cells a) s) (chosen_index a)) (2 + N.any)
        ≤ 2 + arm_back P K N.any choices (turned_choice choices (chosen_cells a) s) (chosen_index a) = max-le (omega arith) (omega (arith, c)) in
        inl (omega (arith, b, o, m, r))
    branch_steps room a s n l (own of_ask) z plain = never (sym (core_can_is {again = again} env (inside_at a works) (own of_ask)) ∙ z)
    branch_steps room a s n l (own of_any) z plain = never (sym (core_can_is {again = again} env (inside_at a works) (own of_any)) ∙ z)
    branch_steps room a s n l (own (of_latch j)) z plain = never (sym (core_can_is {again = again} env (inside_at a works) (own (of_latch j))) ∙ z)
    branch_steps room a s n l (own (of_start j)) z plain = never (sym (core_can_is {again = again} env (inside_at a works) (own (of_start j))) ∙ z)
    branch_steps room a s n l (guard q) z plain = never (sym (core_can_is {again = again} env (inside_at a works) (guard q)) ∙ z)
    branch_steps room a s n l (branch q) z plain = wrapped s q (branch s) (branch q) branch_apart (chosen_moves env a q) _ _ _ (l.each q z plain)

  -- ---- as steps of the statement

  module _ (held down : ℕ) {choices : Choices} where
    select_step : (x : ChoiceAt false choices running) (y : CoreCells choices) (s : CoreSpots choices) (n : ℕ)
        → ((q : CoreSpots choices) → CoreStep (selecting P held down choices) false x y s n q) → (q : Spot (choosing false choices))
        → one_rule_fires (rule (choosing false choices) env true y q) ≡ true → Plain (choosing false choices) y q
        → Shorter (spot_at false s) q (moves env (at_choice x) q) (trail P K held down (choosing false choices) y q)
        (trail P K held down (choosing false choices) (choice_cells x) q) n
    select_step x y s n l (of_core of_joined) z plain =
        wrapped s (own of_joined) (spot_at false s) (of_core of_joined) (spot_apart false s (own of_joined)) _ _ _ _ (l (own of_joined) z plain)
    select_step x y s n l (of_core of_ask) z plain =
        wrapped s (own of_ask) (spot_at false s) (of_core of_ask) (spot_apart false s (own of_ask)) _ _ _ _ (l (own of_ask) z plain)
    select_step x y s n l (of_core of_any) z plain =
        wrapped s (own of_any) (spot_at false s) (of_core of_any) (spot_apart false s (own of_any)) _ _ _ _ (l (own of_any) z plain)
    select_step x y s n l (of_core (of_latch i)) z plain =
        wrapped s (own (of_latch i)) (spot_at false s) (of_core (of_latch i)) (spot_apart false s (own (of_latch i))) _ _ _ _ (l (own (of_latch i)) z plain)
    select_step x y s n l (of_core (of_start i)) z plain =
        wrapped s (own (of_start i)) (spot_at false s) (of_core (of_start i)) (spot_apart false s (own (of_start i))) _ _ _ _ (l (own (of_start i)) z plain)
    select_step x y s n l (of_guard q) z plain =
        wrapped s (guard q) (spot_at false s) (of_guard q) (spot_apart false s (guard q)) _ _ _ _ (l (guard q) z plain)
    select_step x y s n l (of_choice q) z plain =
        wrapped s (branch q) (spot_at false s) (of_choice q) (spot_apart false s (branch q)) _ _ _ _ (l (branch q) z plain)

    pub select_latched : (g : GuardCells choices) (i : Index (choice_count choices)) (n : ℕ)
        → ((q : CoreSpots choices) → CoreStep (selecting P held down choices) false (control_at (evaluating g))
        (core_turned choices (choice_cells {again = false} (control_at (evaluating g))) (own (of_latch i))) (own (of_latch i)) n q)
        → Stepped P K held down (choosing false choices) env (at_choice (control_at (evaluating g))) (of_core (of_latch i)) n
    select_latched g i n l = record {
      each = select_step (control_at (evaluating g)) (core_turned choices (choice_cells {again = false} (control_at (evaluating g))) (own (of_latch i)))
          (own (of_latch i)) n l;
      up = λ e. never e;
    }

    pub select_stepped : (a : ChosenAt choices running) (s : ChoiceSpot choices) (n : ℕ)
        → ((q : CoreSpots choices) → CoreStep (selecting P held down choices) false (inside_at a works)
        (core_turned choices (choice_cells {again = false} (inside_at a works)) (branch s)) (branch s) n q)
        → Stepped P K held down (choosing false choices) env (at_choice (inside_at a works)) (of_choice s) n
    select_stepped a s n l = record {
      each = select_step (inside_at a works) (core_turned choices (choice_cells {again = false} (inside_at a works)) (branch s)) (branch s) n l;
      up = λ e. never e;
    }

    turn_step : (x : ChoiceAt true choices running) (y : CoreCells choices) → y.answer ≡ false → (s : CoreSpots choices) (n : ℕ)
        → ((q : CoreSpots choices) → CoreStep (turning P held down choices) true x y s n q) → (q : Spot (choosing true choices))
        → one_rule_fires (rule (choosing true choices) env true (turning_of false true false y) q) ≡ true
        → Plain (choosing true choices) (turning_of false true false y) q
        → Shorter (spot_at true s) q (moves env (at_turning x) q) (trail P K held down (choosing true choices) (turning_of false true false y) q)
        (trail P K held down (choosing true choices) (turning_of false true false (choice_cells x)) q) n
    turn_step x y low s n l (of_core of_joined) z plain =
        wrapped s (own of_joined) (spot_at true s) (of_core of_joined) (spot_apart true s (own of_joined)) _ _ _ _ (l (own of_joined) z plain)
    turn_step x y low s n l (of_core of_ask) z plain =
        wrapped s (own of_ask) (spot_at true s) (of_core of_ask) (spot_apart true s (own of_ask)) _ _ _ _ (l (own of_ask) z plain)
    turn_step x y low s n l (of_core of_any) z plain =
        wrapped s (own of_any) (spot_at true s) (of_core of_any) (spot_apart true s (own of_any)) _ _ _ _ (l (own of_any) z plain)
    turn_step x y low s n l (of_core (of_latch i)) z plain =
        wrapped s (own (of_latch i)) (spot_at true s) (of_core (of_latch i)) (spot_apart true s (own (of_latch i))) _ _ _ _ (l (own (of_latch i)) z plain)
    turn_step x y low s n l (of_core (of_start i)) z plain =
        wrapped s (own (of_start i)) (spot_at true s) (of_core (of_start i)) (spot_apart true s (own (of_start i))) _ _ _ _ (l (own (of_start i)) z plain)
    turn_step x y low s n l (of_guard q) z plain =
        wrapped s (guard q) (spot_at true s) (of_guard q) (spot_apart true s (guard q)) _ _ _ _ (l (guard q) z plain)
    turn_step x y low s n l (of_choice q) z plain =
        wrapped s (branch q) (spot_at true s) (of_choice q) (spot_apart true s (branch q)) _ _ _ _ (l (branch q) z plain)
    turn_step x y low s n l (of_round of_answer) z plain = never z
    turn_step x y low s n l (of_round of_turn) z plain = absurd (not_both (ap (λ b. b || false) low) z)
    turn_step x y low s n l (of_round of_leave) z plain = never (plain refl)

    pub turn_latched : (g : GuardCells choices) (i : Index (choice_count choices)) (n : ℕ)
        → ((q : CoreSpots choices) → CoreStep (turning P held down choices) true (control_at (evaluating g))
        (core_turned choices (choice_cells {again = true} (control_at (evaluating g))) (own (of_latch i))) (own (of_latch i)) n q)
        → Stepped P K held down (choosing true choices) env (at_turning (control_at (evaluating g))) (of_core (of_latch i)) n
    turn_latched g i n l = record {
      each = turn_step (control_at (evaluating g)) (core_turned choices (choice_cells {again = true} (control_at (evaluating g))) (own (of_latch i))) refl
          (own (of_latch i)) n l;
      up = λ e. never e;
    }

    pub turn_stepped : (a : ChosenAt choices running) (s : ChoiceSpot choices) (n : ℕ)
        → ((q : CoreSpots choices) → CoreStep (turning P held down choices) true (inside_at a works)
        (core_turned choices (choice_cells {again = true} (inside_at a works)) (branch s)) (branch s) n q)
        → Stepped P K held down (choosing true choices) env (at_turning (inside_at a works)) (of_choice s) n
    turn_stepped a s n l = record {
      each = turn_step (inside_at a works) (core_turned choices (choice_cells {again = true} (inside_at a works)) (branch s)) refl (branch s) n l;
      up = λ e. never e;
    }

    -- the latch of the end rises
    pub leave_rises : (g : GuardCells choices) → over (choice_count choices) (heads choices g) ≡ true
        → Stepped P K held down (choosing true choices) env (at_turning (control_at (evaluating g))) (of_round of_leave)
        (latch_phase (turning P held down choices).left choices)
    leave_rises g e = record { each = here; up = λ e. never e }
      where
        here : (q : Spot (choosing true choices))
            → one_rule_fires (rule (choosing true choices) env true (flipped (choosing true choices)
            (cells (at_turning {choices = choices} (control_at (evaluating g)))) (of_round of_leave)) q) ≡ true
            → Plain (choosing true choices) (flipped (choosing true choices) (cells (at_turning {choices = choices} (control_at (evaluating g))))
            (of_round of_leave)) q
            → Shorter (of_round of_leave) q (moves env (at_turning {choices = choices} (control_at (evaluating g))) q)
            (trail P K held down (choosing true choices) (flipped (choosing true choices) (cells (at_turning {choices = choices} (control_at (evaluating g))))
            (of_round of_leave)) q)
            (trail P K held down (choosing true choices) (cells (at_turning {choices = choices} (control_at (evaluating g)))) q)
            (latch_phase (turning P held down choices).left choices)
        here (of_core of_joined) z plain = never (sym (can_is env (at_turning (control_at (evaluating g))) (of_core of_joined)) ∙ z)
        here (of_core of_ask) z plain = never (sym (can_is env (at_turning (control_at (evaluating g))) (of_core of_ask)) ∙ z)
        here (of_core of_any) z plain = inl (omega arith)
        here (of_core (of_latch j)) z plain = absurd (not_both (bit_none j) (plain refl))
        here (of_core (of_start j)) z plain = never (sym (can_is env (at_turning (control_at (evaluating g))) (of_core (of_start j))) ∙ z)
        here (of_guard q) z plain = inr ((λ t. cc t), sym (can_is env (at_turning (control_at (evaluating g))) (of_guard q)) ∙ z, omega arith)
        here (of_choice q) z plain = never (sym (can_is env (at_turning (control_at (evaluating g))) (of_choice q)) ∙ z)
        here (of_round of_answer) z plain = absurd (not_both (neutral_over (choice_count choices) (heads choices g) z) e)
        here (of_round of_turn) z plain = never z
        here (of_round of_leave) z plain = never z
