-- Own moves of a core while a branch is under way.
--
-- P: the program; K: how many moves follow the falls of lines; N: the numbers of the core; a: where the branch is; w: where the core is; i, j:
-- branches; s, q: spots; e: that a move may be made; z: that a rule fires once it was.
use Rattle.std.proofs.Common.{◌≡◌, ℕ, ◌+◌, ◌-◌, ◌<◌, ◌≤◌, Bool, true, false, refl, sym, ap, ◌∙◌, subst, inl, inr, arith}
use Rattle.std.specs.Prelude.{not, ◌&&◌, if◌then◌else◌, max}
use Rattle.std.proofs.Math.Nat.{le-max_left, le-max_right, zero-max}
use Rattle.width_check.specs.Processes.{Choices, no_choices, and_choice, choice_count, TypedProgram}
use Rattle.function_blocks.specs.Rails.{one_rule_fires}
use Rattle.circuit_places.specs.Lines.{Seen}
use Rattle.circuit_places.specs.Heads.{Index, top, under, Bits, low_bits, bit_of, some_bit, turned_bit, hot, all_neutral, alone}
use Rattle.circuit_places.specs.Cores.{OwnSpot, of_joined, of_ask, of_any, of_latch, of_start}
use Rattle.circuit_places.specs.Circuit.{ChoiceCells, ChoiceSpot, this_choice, other_choice, low_guards, heads, choice_rule}
use Rattle.circuit_places.proofs.HeadFacts.{bit_none, hot_low, some_hot, hot_is, hot_turned, neutral_alone}
use Rattle.circuit_places.proofs.Flow.{Clean, cases, not_both}
use Rattle.circuit_places.proofs.CoreControl.{Way, worked, letting, backs, isnt_running, way_moves}
use Rattle.circuit_places.proofs.CoreMoves.{own, guard, branch}
use Rattle.circuit_places.proofs.Places.{Mode, idle, running, answered, returning, acks, ChoiceAt, inside_at, ChosenAt, this_one, another, chosen_index, chosen_cells, chosen_answers, ChosenFits, low_quiet, low_choice_quiet, low_neutral}
use Rattle.round_time.specs.Longest.{first}
use Rattle.circuit_time.proofs.Trails.{Clearing, back, choice_back, latch_trail, start_trail, choice_trail}
use Rattle.circuit_time.proofs.Releases.{released, choice_least}
use Rattle.circuit_pace.proofs.Never.{never, not_low}
use Rattle.circuit_pace.proofs.ChosenTrails.{arm_back}
use Rattle.circuit_pace.proofs.CoreTrails.{CoreSpots, Numbers, Room, core_can_is, own_apart, CoreEach, CoreLed}

-- latches and starts
pub latch_more : (P : TypedProgram) (K : Clearing) (any down : ℕ) (cs : Choices) (x : ChoiceCells cs) (i : Index (choice_count cs))
    → 1 + any ≤ latch_trail P K any down cs x i
latch_more P K any down no_choices x i = elim i [ ]
latch_more P K any down (and_choice g p more) x top = le-max_left (1 + any) (1 + back P K down p x.0)
latch_more P K any down (and_choice g p more) x (under i) = latch_more P K any down more x.1 i

pub start_below : (P : TypedProgram) (K : Clearing) (any down : ℕ) (cs : Choices) (b : Bits (choice_count cs)) (x : ChoiceCells cs) (i : Index
    (choice_count cs))
    → bit_of i b ≡ true → start_trail P K down cs b x i < latch_trail P K any down cs x i
start_below P K any down no_choices b x i e = elim i [ ]
start_below P K any down (and_choice g p more) b x top e =
    let m = le-max_right (1 + any) (1 + back P K down p x.0) in
    let z : (if b.0 then back P K down p x.0 else first P p - 1)
    ≡ back P K down p x.0 = ap (λ (c : Bool). if c then back P K down p x.0 else first P p - 1) e in
    omega (arith, m, z)
start_below P K any down (and_choice g p more) b x (under i) e = start_below P K any down more b.1 x.1 i e

pub start_high : (P : TypedProgram) (K : Clearing) (down : ℕ) (cs : Choices) (b : Bits (choice_count cs)) (x : ChoiceCells cs) (i : Index (choice_count cs))
    → bit_of i b ≡ true → start_trail P K down cs b x i ≡ arm_back P K down cs x i
start_high P K down no_choices b x i e = elim i [ ]
start_high P K down (and_choice g p more) b x top e = ap (λ (c : Bool). if c then back P K down p x.0 else first P p - 1) e
start_high P K down (and_choice g p more) b x (under i) e = start_high P K down more b.1 x.1 i e

pub no_latch : (P : TypedProgram) (K : Clearing) (any down : ℕ) (cs : Choices) (x : ChoiceCells cs)
    → choice_back P K any down cs (low_bits (choice_count cs)) x ≤ 2 + any
no_latch P K any down no_choices x = omega arith
no_latch P K any down (and_choice g p more) x = let a = no_latch P K any down more x.1 in max_le_zero (choice_back P K any down more (low_bits
    (choice_count more)) x.1) (2 + any) a
  where
    max_le_zero : (b c : ℕ) → b ≤ c → max 0 b ≤ c
    max_le_zero b c e = let z : max 0 b ≡ b = zero-max b in omega (arith, z, e)

-- the one bit that is high, turned over
low_again : {n : ℕ} (i j : Index n) → bit_of j (hot i true) ≡ true → turned_bit j (hot i true) ≡ low_bits n
low_again {n = n} i j e = subst (λ (k : Index n). turned_bit k (hot i true) ≡ low_bits n) (sym (hot_is i j true e).0) (sym (hot_turned i true) ∙ hot_low i)

-- a branch that has answered lets go
chosen_released : (P : TypedProgram) (K : Clearing) (held down : ℕ) {cs : Choices} (env : Seen) → Clean P env → (a : ChosenAt cs answered) → ChosenFits a env
    → (q : ChoiceSpot cs) → one_rule_fires (choice_rule cs env (low_bits (choice_count cs)) (chosen_cells a) q) ≡ true
    → choice_trail P K held down cs (chosen_cells a) q < arm_back P K down cs (chosen_cells a) (chosen_index a)
chosen_released P K held down env clean (this_one a) f (this_choice q) z = released P K held down env clean a f q z
chosen_released P K held down env clean (this_one {more = more} a) f (other_choice q) z = absurd (not_both (low_choice_quiet more env q) z)
chosen_released P K held down env clean (another {p = p} a) f (this_choice q) z = absurd (not_both (low_quiet p env q) z)
chosen_released P K held down env clean (another a) f (other_choice q) z = chosen_released P K held down env clean a f q z

module _ (P : TypedProgram) (K : Clearing) (N : Numbers) (env : Seen) (clean : Clean P env) {again : Bool} {choices : Choices} where
  abbrev in_way : {m k : Mode} → ChosenAt choices k → Way m k → ChoiceAt again choices m
  in_way a w = inside_at a w

  joined_up : Room P N choices → (a : ChosenAt choices answered) → CoreLed P K N env (in_way a worked) (own of_joined)
  joined_up room a = record {
    each = here;
    up = λ e z. let b = choice_least P K N.any N.any choices (hot (chosen_index a) true) (chosen_cells a) in
        let r = room.lower in (omega arith, omega (arith, b, r));
    falls = λ e z. never e;
    less = omega arith;
  }
    where
      here : (q : CoreSpots choices) → CoreEach P K N env (in_way a worked) (own of_joined) q
      here (own of_joined) z plain = never z
      here (own of_ask) z plain = inr (own_apart (λ t. cc t), sym (core_can_is env (in_way a worked) (own of_ask)) ∙ z, omega arith)
      here (own of_any) z plain = inr (own_apart (λ t. cc t), sym (core_can_is env (in_way a worked) (own of_any)) ∙ z, omega arith)
      here (own (of_latch i)) z plain = inr (own_apart (λ t. cc t), sym (core_can_is env (in_way a worked) (own (of_latch i))) ∙ z, omega arith)
      here (own (of_start i)) z plain = inr (own_apart (λ t. cc t), sym (core_can_is env (in_way a worked) (own (of_start i))) ∙ z, omega arith)
      here (guard q) z plain = inr ((λ t. cc t), sym (core_can_is env (in_way a worked) (guard q)) ∙ z, omega arith)
      here (branch q) z plain = inr ((λ t. cc t), sym (core_can_is env (in_way a worked) (branch q)) ∙ z, omega arith)

  latch_down : (a : ChosenAt choices answered) (j : Index (choice_count choices)) → bit_of j (hot (chosen_index a) true) ≡ true
      → CoreLed P K N env (in_way a letting) (own (of_latch j))
  latch_down a j e = record {
    each = here;
    up = λ b z. not_low b;
    falls = λ b z. not_low z;
    less =
        let n = no_latch P K N.any N.any choices (chosen_cells a) in
        let l = choice_least P K N.any N.any choices (hot (chosen_index a) true) (chosen_cells a) in
        let z : choice_back P K N.any N.any choices (turned_bit j (hot (chosen_index a) true)) (chosen_cells a)
        ≡ choice_back P K N.any N.any choices (low_bits (choice_count choices)) (chosen_cells a) =
        ap (λ (b : Bits (choice_count choices)). choice_back P K N.any N.any choices b (chosen_cells a)) low in
        omega (arith, n, l, z);
  }
    where
      low : turned_bit j (hot (chosen_index a) true) ≡ low_bits (choice_count choices)
      low = low_again (chosen_index a) j e

      starts : (i : Index (choice_count choices))
          → (if bit_of i (hot (chosen_index a) true) then not (bit_of i (turned_bit j (hot (chosen_index a) true)))
          else (bit_of i (turned_bit j (hot (chosen_index a) true)) && all_neutral (choice_count choices) (heads choices (low_guards choices)))) ≡ true
          → start_trail P K N.any choices (hot (chosen_index a) true) (chosen_cells a) i < latch_trail P K N.any N.any choices (chosen_cells a) j
      starts i z = cases (bit_of i (hot (chosen_index a) true))
          (λ (h : bit_of i (hot (chosen_index a) true) ≡ true).
          subst (λ (k : Index (choice_count choices)). start_trail P K N.any choices (hot (chosen_index a) true) (chosen_cells a) i
          < latch_trail P K N.any N.any choices (chosen_cells a) k) ((hot_is (chosen_index a) i true h).0 ∙ sym (hot_is (chosen_index a) j true e).0)
          (start_below P K N.any N.any choices (hot (chosen_index a) true) (chosen_cells a) i h))
          (λ (h : bit_of i (hot (chosen_index a) true) ≡ false). absurd (not_both
          (ap (λ (b : Bits (choice_count choices)). bit_of i b && all_neutral (choice_count choices) (heads choices (low_guards choices))) low
          ∙ ap (λ c. c && all_neutral (choice_count choices) (heads choices (low_guards choices))) (bit_none i))
          (subst (λ (c : Bool). (if c then not (bit_of i (turned_bit j (hot (chosen_index a) true)))
          else (bit_of i (turned_bit j (hot (chosen_index a) true)) && all_neutral (choice_count choices) (heads choices (low_guards choices)))) ≡ true) h z)))

      once : (i : Index (choice_count choices))
          → (if bit_of i (turned_bit j (hot (chosen_index a) true)) then not false else alone i (heads choices (low_guards choices))) ≡ true → ⊥
      once i z = not_both (neutral_alone i (heads choices (low_guards choices)) (low_neutral choices))
          (subst (λ (c : Bool). (if c then not false else alone i (heads choices (low_guards choices))) ≡ true)
          (ap (λ (b : Bits (choice_count choices)). bit_of i b) low ∙ bit_none i) z)

      here : (q : CoreSpots choices) → CoreEach P K N env (in_way a letting) (own (of_latch j)) q
      here (own of_joined) z plain = never z
      here (own of_ask) z plain = inr (own_apart (λ t. cc t), sym (core_can_is env (in_way a letting) (own of_ask)) ∙ z, omega arith)
      here (own of_any) z plain = let m = latch_more P K N.any N.any choices (chosen_cells a) j in inl (omega (arith, m))
      here (own (of_latch i)) z plain = absurd (once i z)
      here (own (of_start i)) z plain = inl (starts i z)
      here (guard q) z plain = inr ((λ t. cc t), sym (core_can_is env (in_way a letting) (guard q)) ∙ z, omega arith)
      here (branch q) z plain = inr ((λ t. cc t), sym (core_can_is env (in_way a letting) (branch q)) ∙ z, omega arith)

  any_down : Room P N choices → {k : Mode} (a : ChosenAt choices k) (h : isnt_running k ≡ true) → CoreLed P K N env (in_way a (backs true h)) (own of_any)
  any_down room {k = k} a h = record { each = here; up = λ b z. not_low b; falls = λ b z. not_low z; less = omega arith }
    where
      here : (q : CoreSpots choices) → CoreEach P K N env (in_way a (backs true h)) (own of_any) q
      here (own of_joined) z plain = let r = room.lower in inl (omega (arith, r))
      here (own of_ask) z plain = never z
      here (own of_any) z plain = absurd (not_both (some_hot (chosen_index a) false) z)
      here (own (of_latch i)) z plain = inr (own_apart (λ t. cc t), sym (core_can_is env (in_way a (backs true h)) (own (of_latch i))) ∙ z, omega arith)
      here (own (of_start i)) z plain = inr (own_apart (λ t. cc t), sym (core_can_is env (in_way a (backs true h)) (own (of_start i))) ∙ z, omega arith)
      here (guard q) z plain = inr ((λ t. cc t), sym (core_can_is env (in_way a (backs true h)) (guard q)) ∙ z, omega arith)
      here (branch q) z plain = inr ((λ t. cc t), sym (core_can_is env (in_way a (backs true h)) (branch q)) ∙ z, omega arith)

  joined_down : {k : Mode} (a : ChosenAt choices k) (h : isnt_running k ≡ true) (any : Bool) → (not any && not (acks k)) ≡ true
      → CoreLed P K N env (in_way a (backs any h)) (own of_joined)
  joined_down {k = k} a h any e = record { each = here; up = λ b z. not_low b; falls = λ b z. omega arith; less = omega arith }
    where
      last : (c d : Bool) → (not c && not d) ≡ true → d ≡ false
      last c false q = refl
      last true true q = absurd (cc q)
      last false true q = absurd (cc q)

      here : (q : CoreSpots choices) → CoreEach P K N env (in_way a (backs any h)) (own of_joined) q
      here (own of_joined) z plain = absurd (not_both (ap (some_bit (choice_count choices)) (chosen_answers a) ∙ (some_hot (chosen_index a) (acks k)
          ∙ last any (acks k) e)) z)
      here (own of_ask) z plain = never z
      here (own of_any) z plain = inr (own_apart (λ t. cc t), sym (core_can_is env (in_way a (backs any h)) (own of_any)) ∙ z, omega arith)
      here (own (of_latch i)) z plain = inr (own_apart (λ t. cc t), sym (core_can_is env (in_way a (backs any h)) (own (of_latch i))) ∙ z, omega arith)
      here (own (of_start i)) z plain = inr (own_apart (λ t. cc t), sym (core_can_is env (in_way a (backs any h)) (own (of_start i))) ∙ z, omega arith)
      here (guard q) z plain = inr ((λ t. cc t), sym (core_can_is env (in_way a (backs any h)) (guard q)) ∙ z, omega arith)
      here (branch q) z plain = inr ((λ t. cc t), sym (core_can_is env (in_way a (backs any h)) (branch q)) ∙ z, omega arith)

  start_down : (a : ChosenAt choices answered) → ChosenFits a env → (h : isnt_running answered ≡ true) (any : Bool) (j : Index (choice_count choices))
      → bit_of j (hot (chosen_index a) true) ≡ true
      → CoreLed P K N env (in_way a (backs any h)) (own (of_start j))
  start_down a f h any j e = record { each = here; up = λ b z. not_low b; falls = λ b z. not_low z; less = omega arith }
    where
      low : turned_bit j (hot (chosen_index a) true) ≡ low_bits (choice_count choices)
      low = low_again (chosen_index a) j e

      once : (i : Index (choice_count choices))
          → (if bit_of i (turned_bit j (hot (chosen_index a) true)) then not (bit_of i (hot (chosen_index a) false))
          else (bit_of i (hot (chosen_index a) false) && all_neutral (choice_count choices) (heads choices (low_guards choices)))) ≡ true → ⊥
      once i z = not_both
          (ap (λ c. c && all_neutral (choice_count choices) (heads choices (low_guards choices)))
          (ap (λ (b : Bits (choice_count choices)). bit_of i b) (hot_low (chosen_index a)) ∙ bit_none i))
          (subst (λ (c : Bool). (if c then not (bit_of i (hot (chosen_index a) false))
          else (bit_of i (hot (chosen_index a) false) && all_neutral (choice_count choices) (heads choices (low_guards choices)))) ≡ true)
          (ap (λ (b : Bits (choice_count choices)). bit_of i b) low ∙ bit_none i) z)

      lets : (q : ChoiceSpot choices) → one_rule_fires (choice_rule choices env (turned_bit j (hot (chosen_index a) true)) (chosen_cells a) q) ≡ true
          → choice_trail P K N.holds N.any choices (chosen_cells a) q
          < start_trail P K N.any choices (hot (chosen_index a) true) (chosen_cells a) j
      lets q z =
          let b = chosen_released P K N.holds N.any env clean a f q
          (subst (λ (y : Bits (choice_count choices)). one_rule_fires (choice_rule choices env y (chosen_cells a) q) ≡ true) low z) in
          let s = start_high P K N.any choices (hot (chosen_index a) true) (chosen_cells a) j e in
          let t : arm_back P K N.any choices (chosen_cells a) j ≡ arm_back P K N.any choices (chosen_cells a) (chosen_index a) =
          ap (arm_back P K N.any choices (chosen_cells a)) (hot_is (chosen_index a) j true e).0 in
          omega (arith, b, s, t)

      here : (q : CoreSpots choices) → CoreEach P K N env (in_way a (backs any h)) (own (of_start j)) q
      here (own of_joined) z plain = inr (own_apart (λ t. cc t), sym (core_can_is env (in_way a (backs any h)) (own of_joined)) ∙ z, omega arith)
      here (own of_ask) z plain = never z
      here (own of_any) z plain = inr (own_apart (λ t. cc t), sym (core_can_is env (in_way a (backs any h)) (own of_any)) ∙ z, omega arith)
      here (own (of_latch i)) z plain = inr (own_apart (λ t. cc t), sym (core_can_is env (in_way a (backs any h)) (own (of_latch i))) ∙ z, omega arith)
      here (own (of_start i)) z plain = absurd (once i z)
      here (guard q) z plain = inr ((λ t. cc t), sym (core_can_is env (in_way a (backs any h)) (guard q)) ∙ z, omega arith)
      here (branch q) z plain = inl (lets q z)

  -- of all of them
  pub way_led : Room P N choices → {m k : Mode} (a : ChosenAt choices k) (w : Way m k) → ChosenFits a env → (s : OwnSpot (choice_count choices))
      → way_moves w (chosen_index a) s ≡ true → CoreLed P K N env (in_way a w) (own s)
  way_led room a worked f of_joined e = joined_up room a
  way_led room a letting f (of_latch j) e = latch_down a j e
  way_led room {k = k} a (backs any h) f of_joined e = joined_down a h any e
  way_led room a (backs true h) f of_any e = any_down room a h
  way_led room {k = answered} a (backs any h) f (of_start j) e = start_down a f h any j e
  way_led room {k = idle} a (backs any h) f (of_start j) e = absurd (cc (hot_is (chosen_index a) j false e).1)
  way_led room {k = returning} a (backs any h) f (of_start j) e = absurd (cc (hot_is (chosen_index a) j false e).1)
  way_led room {k = running} a (backs any h) f (of_start j) e = never h
  way_led room a (backs false h) f of_any e = never e
  way_led room a w f s e = never e
