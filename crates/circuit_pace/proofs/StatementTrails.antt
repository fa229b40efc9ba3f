-- What is said of a move of a core is said of it as a move of its selection, and of its guarded repetition, whose turn's request a joined answer lets
-- go of, and calls for again.
--
-- P: the program; K: how many moves follow the falls of lines; x: where the core is; y: the values of its nodes; v: the latch of the end; s, q: spots;
-- z: that a rule fires; l: what is said of the move of the core.
use Rattle.std.proofs.Common.{◌≡◌, ◌≢◌, ℕ, ◌+◌, Bool, true, false, refl, sym, ap, ◌∙◌, subst, inl, inr, arith}
use Rattle.std.specs.Prelude.{not, ◌&&◌, ◌||◌, if◌then◌else◌}
use Rattle.width_check.specs.Processes.{choosing, Choices, choice_count, TypedProgram}
use Rattle.function_blocks.specs.Rails.{one_rule_fires}
use Rattle.circuit_places.specs.Lines.{Seen}
use Rattle.circuit_places.specs.Cores.{Turning, OwnSpot, of_joined, of_ask, of_any, of_latch, of_start, of_answer, of_turn, of_leave, turned_own, turning_of}
use Rattle.circuit_places.specs.Circuit.{GuardSpot, Spot, of_core, of_guard, of_choice, of_round, rule, flipped}
use Rattle.circuit_places.proofs.CoreMoves.{own, guard, branch}
use Rattle.circuit_places.proofs.ChoiceMoves.{spot_at}
use Rattle.circuit_places.proofs.Places.{Mode, idle, running, answered, returning, asks, at_choice, at_turning, ChoiceAt, choice_leave, choice_cells, choice_round, moves, can_is}
use Rattle.round_time.specs.Longest.{guards_depth}
use Rattle.circuit_time.proofs.Trails.{Clearing, trail}
use Rattle.circuit_time.proofs.Requests.{Plain}
use Rattle.circuit_time.proofs.OwnTrails.{Shorter, Led}
use Rattle.circuit_pace.proofs.Never.{never}
use Rattle.circuit_pace.proofs.CoreTrails.{CoreCells, CoreSpots, selecting, turning, core_back, core_trail, core_turned, CorePlain, core_can, core_answer, spot_apart, CoreLed}

-- the same numbers, of spots of the core and of those of the statement
renumbered : {S T : Type 0} (s q : S) (v w : T) → (s ≢ q → v ≢ w) → (could : Bool) (now before of_s now_too before_too of_s_too : ℕ) → now_too ≡ now
    → before_too ≡ before → of_s_too ≡ of_s → Shorter s q could now before of_s → Shorter v w could now_too before_too of_s_too
renumbered s q v w ne could now before of_s now_too before_too of_s_too a b c (inl less) = inl (omega (arith, a, c, less))
renumbered s q v w ne could now before of_s now_too before_too of_s_too a b c (inr (apart, on, upto)) = inr (ne apart, on, omega (arith, a, b, upto))

-- two own nodes of a core are two spots of its statement, and two gates of guards
abbrev own_of : {again : Bool} {cs : Choices} → OwnSpot (choice_count cs) → Spot (choosing again cs) → OwnSpot (choice_count cs)
own_of d (of_core s) = s
own_of d _ = d

pub core_apart : {again : Bool} {cs : Choices} {s q : OwnSpot (choice_count cs)} → s ≢ q → of_core {again = again} {choices = cs} s ≢ of_core q
core_apart {s = s} ne e = ne (ap (own_of s) e)

abbrev guard_of : {again : Bool} {cs : Choices} → GuardSpot cs → Spot (choosing again cs) → GuardSpot cs
guard_of d (of_guard s) = s
guard_of d _ = d

pub gate_apart : {again : Bool} {cs : Choices} {s q : GuardSpot cs} → s ≢ q → of_guard {again = again} s ≢ of_guard q
gate_apart {s = s} ne e = ne (ap (guard_of s) e)

or_false_true : (b : Bool) → (b || false) ≡ true → b ≡ true
or_false_true true e = refl
or_false_true false e = absurd (cc e)

not_true_false : (b : Bool) → (true && not b) ≡ true → b ≡ false
not_true_false true e = absurd (cc e)
not_true_false false e = refl

-- how many moves follow the fall of a turn's request, and its rise
abbrev turn_number : TypedProgram → Clearing → (cs : Choices) → Bool → CoreCells cs → ℕ
turn_number P K cs r y = if r then core_back P K (3 + guards_depth cs) cs y else 1 + guards_depth cs

module _ (P : TypedProgram) (K : Clearing) (held down : ℕ) (env : Seen) {choices : Choices} where
  -- ---- a selection

  select_trail : (y : CoreCells choices) (q : CoreSpots choices)
      → trail P K held down (choosing false choices) y (spot_at false q) ≡ core_trail P K (selecting P held down choices) choices y q
  select_trail y (own of_joined) = refl
  select_trail y (own of_ask) = refl
  select_trail y (own of_any) = refl
  select_trail y (own (of_latch i)) = refl
  select_trail y (own (of_start i)) = refl
  select_trail y (guard s) = refl
  select_trail y (branch s) = refl

  pub select_plain : (y : CoreCells choices) (q : CoreSpots choices) → Plain (choosing false choices) y (spot_at false q) → CorePlain choices y q
  select_plain y (own of_joined) plain = plain
  select_plain y (own of_ask) plain = plain
  select_plain y (own of_any) plain = plain
  select_plain y (own (of_latch i)) plain = plain
  select_plain y (own (of_start i)) plain = plain
  select_plain y (guard s) plain = plain
  select_plain y (branch s) plain = plain

  abbrev InSelection : {m : Mode} → ChoiceAt false choices m → (s q : Spot (choosing false choices)) → Type 0
  InSelection {m = m} x s q = one_rule_fires (rule (choosing false choices) env (asks m) (flipped (choosing false choices) (choice_cells x) s) q) ≡ true
      → Plain (choosing false choices) (flipped (choosing false choices) (choice_cells x) s) q
      → Shorter s q (moves env (at_choice x) q) (trail P K held down (choosing false choices) (flipped (choosing false choices) (choice_cells x) s) q)
      (trail P K held down (choosing false choices) (choice_cells x) q) (trail P K held down (choosing false choices) (choice_cells x) s)

  as_selected : {m : Mode} (x : ChoiceAt false choices m) (y : CoreCells choices) (s q : CoreSpots choices)
      → Shorter s q (core_can env x q) (core_trail P K (selecting P held down choices) choices y q)
      (core_trail P K (selecting P held down choices) choices (choice_cells x) q) (core_trail P K (selecting P held down choices) choices (choice_cells x) s)
      → Shorter (spot_at false s) (spot_at false q) (core_can env x q) (trail P K held down (choosing false choices) y (spot_at false q))
      (trail P K held down (choosing false choices) (choice_cells x) (spot_at false q))
      (trail P K held down (choosing false choices) (choice_cells x) (spot_at false s))
  as_selected x y s q c = renumbered s q (spot_at false s) (spot_at false q) (spot_apart false s q) _ _ _ _ _ _ _ (select_trail y q)
      (select_trail (choice_cells x) q) (select_trail (choice_cells x) s) c

  select_each : {m : Mode} (x : ChoiceAt false choices m) (s : CoreSpots choices) → CoreLed P K (selecting P held down choices) env x s
      → (q : Spot (choosing false choices)) → InSelection x (spot_at false s) q
  select_each x (own s) l (of_core q) z plain =
      let y = turned_own (choice_cells x) s in as_selected x y (own s) (own q) (l.each (own q) z (select_plain y (own q) plain))
  select_each x (own s) l (of_guard q) z plain =
      let y = turned_own (choice_cells x) s in as_selected x y (own s) (guard q) (l.each (guard q) z (select_plain y (guard q) plain))
  select_each x (own s) l (of_choice q) z plain =
      let y = turned_own (choice_cells x) s in as_selected x y (own s) (branch q) (l.each (branch q) z (select_plain y (branch q) plain))
  select_each x (guard s) l (of_core q) z plain =
      let y = core_turned choices (choice_cells x) (guard s) in as_selected x y (guard s) (own q) (l.each (own q) z (select_plain y (own q) plain))
  select_each x (guard s) l (of_guard q) z plain =
      let y = core_turned choices (choice_cells x) (guard s) in as_selected x y (guard s) (guard q) (l.each (guard q) z (select_plain y (guard q) plain))
  select_each x (guard s) l (of_choice q) z plain =
      let y = core_turned choices (choice_cells x) (guard s) in as_selected x y (guard s) (branch q) (l.each (branch q) z (select_plain y (branch q) plain))
  select_each x (branch s) l (of_core q) z plain =
      let y = core_turned choices (choice_cells x) (branch s) in as_selected x y (branch s) (own q) (l.each (own q) z (select_plain y (own q) plain))
  select_each x (branch s) l (of_guard q) z plain =
      let y = core_turned choices (choice_cells x) (branch s) in as_selected x y (branch s) (guard q) (l.each (guard q) z (select_plain y (guard q) plain))
  select_each x (branch s) l (of_choice q) z plain =
      let y = core_turned choices (choice_cells x) (branch s) in as_selected x y (branch s) (branch q) (l.each (branch q) z (select_plain y (branch q) plain))

  pub selection_led : {m : Mode} (x : ChoiceAt false choices m) (s : CoreSpots choices) → CoreLed P K (selecting P held down choices) env x s
      → Led P K held down (choosing false choices) m env (at_choice x) (spot_at false s)
  selection_led x (own s) l = record {
    each = select_each x (own s) l;
    up = λ b z. let u = l.up b z in let a = u.0 in let t = select_trail (choice_cells x) (own s) in (omega (arith, a, t), u.1);
    falls = λ b z. let f = l.falls b z in let t = select_trail (choice_cells x) (own s) in omega (arith, f, t);
    less = l.less;
  }
  selection_led x (guard s) l = record { each = select_each x (guard s) l; up = l.up; falls = l.falls; less = l.less }
  selection_led x (branch s) l = record { each = select_each x (branch s) l; up = l.up; falls = l.falls; less = l.less }

  -- ---- a repetition whose latch of the end is low

  turn_trail : (r : Bool) (y : CoreCells choices) (q : CoreSpots choices)
      → trail P K held down (choosing true choices) (turning_of false r false y) (spot_at true q) ≡ core_trail P K (turning P held down choices) choices y q
  turn_trail r y (own of_joined) = refl
  turn_trail r y (own of_ask) = refl
  turn_trail r y (own of_any) = refl
  turn_trail r y (own (of_latch i)) = refl
  turn_trail r y (own (of_start i)) = refl
  turn_trail r y (guard s) = refl
  turn_trail r y (branch s) = refl

  pub turn_plain : (r v : Bool) (y : CoreCells choices) (q : CoreSpots choices) → Plain (choosing true choices) (turning_of false r v y) (spot_at true q)
      → CorePlain choices y q
  turn_plain r v y (own of_joined) plain = plain
  turn_plain r v y (own of_ask) plain = plain
  turn_plain r v y (own of_any) plain = plain
  turn_plain r v y (own (of_latch i)) plain = plain
  turn_plain r v y (own (of_start i)) plain = plain
  turn_plain r v y (guard s) plain = plain
  turn_plain r v y (branch s) plain = plain

  abbrev turn_cells : {m : Mode} → ChoiceAt true choices m → Bool → Turning (CoreCells choices)
  turn_cells {m = m} x v = turning_of false (asks m) v (choice_cells x)

  abbrev InTurn : {m : Mode} → ChoiceAt true choices m → (v : Bool) → (s q : Spot (choosing true choices)) → Type 0
  InTurn x v s q = one_rule_fires (rule (choosing true choices) env true (flipped (choosing true choices) (turn_cells x v) s) q) ≡ true
      → Plain (choosing true choices) (flipped (choosing true choices) (turn_cells x v) s) q
      → Shorter s q (moves env (at_turning x) q) (trail P K held down (choosing true choices) (flipped (choosing true choices) (turn_cells x v) s) q)
      (trail P K held down (choosing true choices) (turn_cells x v) q) (trail P K held down (choosing true choices) (turn_cells x v) s)

  as_turned : {m : Mode} (x : ChoiceAt true choices m) (y : CoreCells choices) (s q : CoreSpots choices)
      → Shorter s q (core_can env x q) (core_trail P K (turning P held down choices) choices y q)
      (core_trail P K (turning P held down choices) choices (choice_cells x) q) (core_trail P K (turning P held down choices) choices (choice_cells x) s)
      → Shorter (spot_at true s) (spot_at true q) (core_can env x q)
      (trail P K held down (choosing true choices) (turning_of false (asks m) false y) (spot_at true q))
      (trail P K held down (choosing true choices) (turn_cells x false) (spot_at true q))
      (trail P K held down (choosing true choices) (turn_cells x false) (spot_at true s))
  as_turned {m = m} x y s q c = renumbered s q (spot_at true s) (spot_at true q) (spot_apart true s q) _ _ _ _ _ _ _ (turn_trail (asks m) y q)
      (turn_trail (asks m) (choice_cells x) q) (turn_trail (asks m) (choice_cells x) s) c

  -- the turn's request
  called : {m : Mode} (x : ChoiceAt true choices m) (s : CoreSpots choices) → CoreLed P K (turning P held down choices) env x s
      → (s_too : Spot (choosing true choices)) → s_too ≢ of_round of_turn → (of_s : ℕ)
      → of_s ≡ core_trail P K (turning P held down choices) choices (choice_cells x) s
      → (if asks m then (core_turned choices (choice_cells x) s).answer || false else true && not (core_turned choices (choice_cells x) s).answer) ≡ true
      → Shorter s_too (of_round of_turn) (choice_round x of_turn) (turn_number P K choices (asks m) (core_turned choices (choice_cells x) s))
      (turn_number P K choices (asks m) (choice_cells x)) of_s
  called {m = idle} x s l s_too ne of_s t z =
      inr (ne, sym (can_is env (at_turning x) (of_round of_turn)) ∙ ap (λ d. true && not d) (core_answer x), omega arith)
  called {m = running} x s l s_too ne of_s t z = let u = (l.up refl (or_false_true _ z)).0 in inl (omega (arith, t, u))
  called {m = answered} x s l s_too ne of_s t z =
      inr (ne, sym (can_is env (at_turning x) (of_round of_turn)) ∙ ap (λ d. d || false) (core_answer x), l.less)
  called {m = returning} x s l s_too ne of_s t z = let f = l.falls refl (not_true_false _ z) in inl (omega (arith, t, f))

  turn_each : {m : Mode} (x : ChoiceAt true choices m) (s : CoreSpots choices) → CoreLed P K (turning P held down choices) env x s
      → (q : Spot (choosing true choices)) → InTurn x false (spot_at true s) q
  turn_each {m = m} x (own s) l (of_core q) z plain =
      let y = turned_own (choice_cells x) s in as_turned x y (own s) (own q) (l.each (own q) z (turn_plain (asks m) false y (own q) plain))
  turn_each {m = m} x (own s) l (of_guard q) z plain =
      let y = turned_own (choice_cells x) s in as_turned x y (own s) (guard q) (l.each (guard q) z (turn_plain (asks m) false y (guard q) plain))
  turn_each {m = m} x (own s) l (of_choice q) z plain =
      let y = turned_own (choice_cells x) s in as_turned x y (own s) (branch q) (l.each (branch q) z (turn_plain (asks m) false y (branch q) plain))
  turn_each x (own s) l (of_round of_answer) z plain = never z
  turn_each x (own s) l (of_round of_leave) z plain = never (plain refl)
  turn_each {m = m} x (own s) l (of_round of_turn) z plain =
      called x (own s) l (of_core s) (λ t. cc t) _ (turn_trail (asks m) (choice_cells x) (own s)) z
  turn_each {m = m} x (guard s) l (of_core q) z plain =
      let y = core_turned choices (choice_cells x) (guard s) in
      as_turned x y (guard s) (own q) (l.each (own q) z (turn_plain (asks m) false y (own q) plain))
  turn_each {m = m} x (guard s) l (of_guard q) z plain =
      let y = core_turned choices (choice_cells x) (guard s) in
      as_turned x y (guard s) (guard q) (l.each (guard q) z (turn_plain (asks m) false y (guard q) plain))
  turn_each {m = m} x (guard s) l (of_choice q) z plain =
      let y = core_turned choices (choice_cells x) (guard s) in
      as_turned x y (guard s) (branch q) (l.each (branch q) z (turn_plain (asks m) false y (branch q) plain))
  turn_each x (guard s) l (of_round of_answer) z plain = never z
  turn_each x (guard s) l (of_round of_leave) z plain = never (plain refl)
  turn_each x (guard s) l (of_round of_turn) z plain = called x (guard s) l (of_guard s) (λ t. cc t) _ refl z
  turn_each {m = m} x (branch s) l (of_core q) z plain =
      let y = core_turned choices (choice_cells x) (branch s) in
      as_turned x y (branch s) (own q) (l.each (own q) z (turn_plain (asks m) false y (own q) plain))
  turn_each {m = m} x (branch s) l (of_guard q) z plain =
      let y = core_turned choices (choice_cells x) (branch s) in
      as_turned x y (branch s) (guard q) (l.each (guard q) z (turn_plain (asks m) false y (guard q) plain))
  turn_each {m = m} x (branch s) l (of_choice q) z plain =
      let y = core_turned choices (choice_cells x) (branch s) in
      as_turned x y (branch s) (branch q) (l.each (branch q) z (turn_plain (asks m) false y (branch q) plain))
  turn_each x (branch s) l (of_round of_answer) z plain = never z
  turn_each x (branch s) l (of_round of_leave) z plain = never (plain refl)
  turn_each x (branch s) l (of_round of_turn) z plain = called x (branch s) l (of_choice s) (λ t. cc t) _ refl z

  pub turning_led : {m : Mode} (x : ChoiceAt true choices m) → choice_leave x ≡ false → (s : CoreSpots choices)
      → CoreLed P K (turning P held down choices) env x s → Led P K held down (choosing true choices) running env (at_turning x) (spot_at true s)
  turning_led x e (own s) l = record {
    each = subst (λ (v : Bool). (q : Spot (choosing true choices)) → InTurn x v (of_core s) q) (sym e) (turn_each x (own s) l);
    up = λ b z. never z;
    falls = λ b z. never b;
    less = omega arith;
  }
  turning_led x e (guard s) l = record {
    each = subst (λ (v : Bool). (q : Spot (choosing true choices)) → InTurn x v (of_guard s) q) (sym e) (turn_each x (guard s) l);
    up = λ b z. never z;
    falls = λ b z. never b;
    less = omega arith;
  }
  turning_led x e (branch s) l = record {
    each = subst (λ (v : Bool). (q : Spot (choosing true choices)) → InTurn x v (of_choice s) q) (sym e) (turn_each x (branch s) l);
    up = λ b z. never z;
    falls = λ b z. never b;
    less = omega arith;
  }
