-- What is due of a selection and of a guarded repetition falls with each own move that is no silent step of the program.
--
-- P: the program; env: what the environment shows; m: the mode of the handshake; r: the request; in the core by numbers e, m, l, s, d: whether
-- the guards are asked for, any guard has a rail, a latch, a start and the answer are high; high, low: what is due of the guards until they
-- have a rail, and until they have none; gates: all of it; opened: what is due of all branches; kid: of that which runs.
use Rattle.std.proofs.Common.{◌≡◌, ℕ, suc, ◌*◌, ◌≤◌, Bool, true, false, refl, sym, ap, ◌∙◌, arith}
use Rattle.std.specs.Prelude.{not, ◌||◌}
use Rattle.width_check.specs.Processes.{choosing, Choices, no_choices, and_choice, choice_count, TypedProgram}
use Rattle.circuit_places.specs.Lines.{Seen}
use Rattle.circuit_places.specs.Heads.{Index, top, under, Bits, low_bits, bit_of, some_bit, turned_bit, hot, nothing_true, over}
use Rattle.circuit_places.specs.Cores.{Core, OwnSpot, of_joined, of_ask, of_any, of_latch, of_start, RoundSpot, of_answer, of_turn, of_leave, turned_own}
use Rattle.circuit_places.specs.Circuit.{ChoiceCells, GuardCells, low, low_guards, low_choices, heads, guards_rule, guards_good, turned_guards, one_rule_fires, GuardSpot, of_core, of_guard, of_round, ChoiceSpot, flipped, turned_choice}
use Rattle.circuit_places.proofs.HeadFacts.{some_none, some_hot, hot_is, hot_turned, hot_up, alone_valid, over_false, false_valid}
use Rattle.circuit_places.proofs.CoreControl.{Mode, Lock, control_leave, closing_own, closing_moves, idle, running, answered, returning, asks, acks, noted, spread, freed, lock_ask, lock_any, lock_may, lock_alone, Control, uncalled, called, evaluating, latched, leaving, control_guards, control_ask, Way, works, worked, reported, letting, backs, way_latch, way_any, Closing, told_all, lets_turn, lets_leave, lets_any, lets_answer}
use Rattle.circuit_places.proofs.GuardWaves.{all_full}
use Rattle.circuit_places.proofs.Places.{low_guards_quiet, choice_own, choice_round, choice_leave, at_turning, at_closing, ChoiceAt, control_at, inside_at, ChosenAt, chosen_index, cells, choice_cells, chosen_cells}
use Rattle.circuit_places.proofs.Meets.{GuardsMeet}
use Rattle.circuit_places.proofs.Flow.{Clean, not_both}
use Rattle.circuit_places.proofs.Stepping.{choice_own_steps, choice_round_steps}
use Rattle.circuit_places.specs.Bounds.{gates_in, choice_most}
use Rattle.circuit_places.proofs.Dues.{mark, lack, guards_sum, guards_most, lack_most, total_due, due, choice_due}
use Rattle.circuit_places.proofs.DuesBound.{choice_within, due_eases}
use Rattle.circuit_places.proofs.LeafDues.{mark_falls, lack_falls, guards_fall}

-- a core, by numbers
module _ (again r : Bool) (high opened kid gates low : ℕ) where
  joined_up : (e m l s : Bool) → l ≡ true → s ≡ true → suc
      (total_due again r e m l s true high opened kid gates low) ≤ total_due again r e m l s false high opened kid gates low
  joined_up e m true true h k = omega arith
  joined_up e m true false h k = absurd (cc k)
  joined_up e m false s h k = absurd (cc h)

  latch_down : (e m s l n : Bool) → l ≡ true → n ≡ false → s ≡ true
      → suc (total_due again r e m n s true high opened kid gates low) ≤ total_due again r e m l s true high opened kid gates low
  latch_down e m true true false h k y = omega arith
  latch_down e m true true true h k y = absurd (cc k)
  latch_down e m true false n h k y = absurd (cc h)
  latch_down e m false l n h k y = absurd (cc y)

  any_down : (e l s : Bool) → l ≡ false → suc (total_due again r e false l s true high opened kid gates low) ≤ total_due again r e true l s true high opened kid
      gates low
  any_down e false s h = omega arith
  any_down e true s h = absurd (cc h)

  start_down : (e m l s n : Bool) (now : ℕ) → l ≡ false → s ≡ true → n ≡ false → now ≤ kid
      → suc (total_due again r e m l n true high opened now gates low) ≤ total_due again r e m l s true high opened kid gates low
  start_down e m false true false now h k y less = omega (arith, less)
  start_down e m false true true now h k y less = absurd (cc y)
  start_down e m false false n now h k y less = absurd (cc k)
  start_down e m true s n now h k y less = absurd (cc h)

  inner_falls : (e m l s d : Bool) (now : ℕ) → (s || not l) ≡ true → (l || d) ≡ true → suc now ≤ kid
      → suc (total_due again r e m l s d high opened now gates low) ≤ total_due again r e m l s d high opened kid gates low
  inner_falls e m true true d now h k less = omega (arith, less)
  inner_falls e m false s true now h k less = omega (arith, less)
  inner_falls e m true false d now h k less = absurd (cc h)
  inner_falls e m false s false now h k less = absurd (cc k)

  any_up : (e l s d : Bool) → l ≡ true → s ≡ false
      → suc (total_due again r e true l s d high opened kid gates low) ≤ total_due again r e false l s d high opened kid gates low
  any_up e true false d h k = omega arith
  any_up e true true d h k = absurd (cc k)
  any_up e false s d h k = absurd (cc h)

  ask_down : (m l s d : Bool) → l ≡ true → s ≡ false
      → suc (total_due again r false m l s d high opened kid gates low) ≤ total_due again r true m l s d high opened kid gates low
  ask_down m true false d h k = omega arith
  ask_down m true true d h k = absurd (cc k)
  ask_down m false s d h k = absurd (cc h)

  guards_down : (e m l s d : Bool) (now : ℕ) → l ≡ true → s ≡ false → suc now ≡ high → (other : ℕ)
      → suc (total_due again r e m l s d now opened kid gates other) ≤ total_due again r e m l s d high opened kid gates low
  guards_down e m true false d now h k less other = omega (arith, less)
  guards_down e m true true d now h k less other = absurd (cc k)
  guards_down e m false s d now h k less other = absurd (cc h)

  start_up : (e m l s n : Bool) (now : ℕ) → l ≡ true → s ≡ false → n ≡ true → now ≤ opened
      → suc (total_due again r e m l n false high opened now gates low) ≤ total_due again r e m l s false high opened kid gates low
  start_up e true true false true now h k y less = omega (arith, less)
  start_up e false true false true now h k y less = omega (arith, less)
  start_up e m true false false now h k y less = absurd (cc y)
  start_up e m true true n now h k y less = absurd (cc k)
  start_up e m false s n now h k y less = absurd (cc h)

ask_up : (again m l s : Bool) (high opened kid gates low : ℕ) → l ≡ false → low ≤ gates
    → suc (total_due again true true m l s false high opened kid gates low) ≤ total_due again true false m l s false high opened kid gates low
ask_up again m false s high opened kid gates low h less = omega (arith, less)
ask_up again m true s high opened kid gates low h less = absurd (cc h)

guards_up : (again m l s : Bool) (high opened kid gates low now other : ℕ) → l ≡ false → suc now ≡ low
    → suc (total_due again true true m l s false other opened kid gates now) ≤ total_due again true true m l s false high opened kid gates low
guards_up again m false s high opened kid gates low now other h less = omega (arith, less)
guards_up again m true s high opened kid gates low now other h less = absurd (cc h)

joined_down : (again l s : Bool) (high opened kid gates low : ℕ) → l ≡ false → s ≡ false
    → suc (total_due again false false false l s false high opened kid gates low) ≤ total_due again false false false l s true high opened kid gates low
joined_down true false false high opened kid gates low h k = omega arith
joined_down false false false high opened kid gates low h k = omega arith
joined_down again false true high opened kid gates low h k = absurd (cc k)
joined_down again true s high opened kid gates low h k = absurd (cc h)

turn_up : (m l s : Bool) (high opened kid gates low : ℕ) → l ≡ false
    → suc (total_due true true false m l s false high opened kid gates low) ≤ total_due true false false m l s false high opened kid gates low
turn_up m false s high opened kid gates low h = omega arith
turn_up m true s high opened kid gates low h = absurd (cc h)

turn_down : (e m l s : Bool) (high opened kid gates low : ℕ)
    → suc (total_due true false e m l s true high opened kid gates low) ≤ total_due true true e m l s true high opened kid gates low
turn_down e m true s high opened kid gates low = omega arith
turn_down e m false s high opened kid gates low = omega arith

-- one of the bits falls
gone : {n : ℕ} (i j : Index n) (b : Bool) → bit_of j (hot i b) ≡ true → some_bit n (turned_bit j (hot i b)) ≡ false
gone {n = n} i j b e =
    let z = hot_is i j b e in
    ap (λ k. some_bit n (turned_bit k (hot i b))) z.0 ∙ (ap (some_bit n) (sym (hot_turned i b)) ∙ (some_hot i (not b) ∙ ap not z.1))

or_true : (b : Bool) → (b || true) ≡ true
or_true true = refl
or_true false = refl

-- the request of a branch falls
choice_lowers : (P : TypedProgram) (choices : Choices) (b : Bits (choice_count choices)) (j : Index (choice_count choices)) (x : ChoiceCells choices)
    → bit_of j b ≡ true → choice_due P choices (turned_bit j b) x ≤ choice_due P choices b x
choice_lowers P no_choices b j x e = elim j [ ]
choice_lowers P (and_choice g p more) b top x e = let z = by b.0 e in omega (arith, z)
  where
    by : (c : Bool) → c ≡ true → due P p (not c) x.0 ≤ due P p c x.0
    by true e = due_eases P p x.0
    by false e = absurd (cc e)
choice_lowers P (and_choice g p more) b (under j) x e = let z = choice_lowers P more b.1 j x.1 e in omega (arith, z)

module _ (P : TypedProgram) (env : Seen) (clean : Clean P env) (again : Bool) (choices : Choices) (laws : GuardsMeet P choices) where
  abbrev n : ℕ
  n = choice_count choices

  abbrev core_total : (r : Bool) → Core n (GuardCells choices) (ChoiceCells choices) → ℕ
  core_total r x =
      total_due again r x.ask x.any (some_bit n x.latched) (some_bit n x.started) x.answer (guards_sum mark choices x.guards) (choice_most P choices)
      (choice_due P choices x.started x.branches) (2 * gates_in choices) (guards_sum lack choices x.guards)

  abbrev H : GuardCells choices → ℕ
  H g = guards_sum mark choices g

  abbrev L : GuardCells choices → ℕ
  L g = guards_sum lack choices g

  abbrev O : ℕ
  O = choice_most P choices

  abbrev G : ℕ
  G = 2 * gates_in choices

  abbrev low_inner : ℕ
  low_inner = choice_due P choices (low_bits n) (low_choices choices)

  pub own_falls : {m : Mode} (x : ChoiceAt again choices m) (s : OwnSpot n) → choice_leave x ≡ false → choice_own x s ≡ true → choice_own_steps x s ≡ false
      → suc (core_total (asks m) (turned_own (choice_cells x) s)) ≤ core_total (asks m) (choice_cells x)
  own_falls (control_at uncalled) s off e still = absurd (cc e)
  own_falls (control_at called) of_ask off e still =
      ask_up again false (some_bit n (low_bits n)) (some_bit n (low_bits n)) (H (low_guards choices)) O low_inner G (L (low_guards choices)) (some_none n)
      (guards_most lack lack_most choices (low_guards choices))
  own_falls (control_at called) _ off e still = absurd (cc e)
  own_falls (control_at (evaluating g)) (of_latch k) off e still = absurd (cc still)
  own_falls (control_at (evaluating g)) _ off e still = absurd (cc e)
  own_falls (control_at (latched noted i g h)) of_any off e still =
      any_up again true (H g) O low_inner G (L g) true (some_bit n (hot i true)) (some_bit n (low_bits n)) false (some_hot i true) (some_none n)
  own_falls (control_at (latched spread i g h)) of_any off e still = absurd (cc e)
  own_falls (control_at (latched freed i g h)) of_any off e still = absurd (cc e)
  own_falls (control_at (latched noted i g h)) of_ask off e still = absurd (cc e)
  own_falls (control_at (latched spread i g h)) of_ask off e still =
      ask_down again true (H g) O low_inner G (L g) true (some_bit n (hot i true)) (some_bit n (low_bits n)) false (some_hot i true) (some_none n)
  own_falls (control_at (latched freed i g h)) of_ask off e still = absurd (cc e)
  own_falls (control_at (latched l i g h)) (of_start k) off e still =
      start_up again true (H g) O low_inner G (L g) (lock_ask l) (lock_any l) (some_bit n (hot i true)) (some_bit n (low_bits n))
      (some_bit n (turned_bit k (low_bits n))) (choice_due P choices (turned_bit k (low_bits n)) (low_choices choices)) (some_hot i true) (some_none n)
      (ap (some_bit n) (sym (hot_up k)) ∙ some_hot k true) (choice_within P choices (turned_bit k (low_bits n)) (low_choices choices))
  own_falls (control_at (latched l i g h)) of_joined off e still = absurd (cc e)
  own_falls (control_at (latched l i g h)) (of_latch k) off e still = absurd (cc e)
  own_falls (control_at (leaving y l g h)) s off e still = absurd (cc off)
  own_falls (inside_at a works) s off e still = absurd (cc e)
  own_falls (inside_at a worked) of_joined off e still =
      joined_up again true (H (low_guards choices)) O (choice_due P choices (hot (chosen_index a) true) (chosen_cells a)) G (L (low_guards choices)) false true
      (some_bit n (hot (chosen_index a) true)) (some_bit n (hot (chosen_index a) true)) (some_hot (chosen_index a) true) (some_hot (chosen_index a) true)
  own_falls (inside_at a worked) _ off e still = absurd (cc e)
  own_falls (inside_at a reported) s off e still = absurd (cc e)
  own_falls (inside_at a letting) (of_latch j) off e still =
      latch_down again false (H (low_guards choices)) O (choice_due P choices (hot (chosen_index a) true) (chosen_cells a)) G
      (L (low_guards choices)) false true
      (some_bit n (hot (chosen_index a) true)) (some_bit n (hot (chosen_index a) true)) (some_bit n (turned_bit j (hot (chosen_index a) true)))
      (some_hot (chosen_index a) true) (gone (chosen_index a) j true e) (some_hot (chosen_index a) true)
  own_falls (inside_at a letting) _ off e still = absurd (cc e)
  own_falls (inside_at a (backs false {k = idle} h)) of_joined off e still =
      joined_down again (some_bit n (hot (chosen_index a) false)) (some_bit n (hot (chosen_index a) false)) (H (low_guards choices)) O
      (choice_due P choices (hot (chosen_index a) false) (chosen_cells a)) G (L (low_guards choices)) (some_hot (chosen_index a) false)
      (some_hot (chosen_index a) false)
  own_falls (inside_at a (backs false {k = running} h)) of_joined off e still = absurd (cc h)
  own_falls (inside_at a (backs false {k = answered} h)) of_joined off e still = absurd (cc e)
  own_falls (inside_at a (backs false {k = returning} h)) of_joined off e still = absurd (cc e)
  own_falls (inside_at a (backs true h)) of_joined off e still = absurd (cc e)
  own_falls (inside_at a (backs true {k = k} h)) of_any off e still =
      any_down again false (H (low_guards choices)) O (choice_due P choices (hot (chosen_index a) (asks k)) (chosen_cells a)) G (L (low_guards choices)) false
      (some_bit n (hot (chosen_index a) false)) (some_bit n (hot (chosen_index a) (asks k))) (some_hot (chosen_index a) false)
  own_falls (inside_at a (backs false h)) of_any off e still = absurd (cc e)
  own_falls (inside_at a (backs any {k = k} h)) (of_start j) off e still =
      start_down again false (H (low_guards choices)) O (choice_due P choices (hot (chosen_index a) (asks k)) (chosen_cells a)) G (L (low_guards choices)) false
      any (some_bit n (hot (chosen_index a) false)) (some_bit n (hot (chosen_index a) (asks k))) (some_bit n (turned_bit j (hot (chosen_index a) (asks k))))
      (choice_due P choices (turned_bit j (hot (chosen_index a) (asks k))) (chosen_cells a)) (some_hot (chosen_index a) false)
      (some_hot (chosen_index a) (asks k) ∙ (hot_is (chosen_index a) j (asks k) e).1) (gone (chosen_index a) j (asks k) e)
      (choice_lowers P choices (hot (chosen_index a) (asks k)) j (chosen_cells a) e)
  own_falls (inside_at a (backs any h)) of_ask off e still = absurd (cc e)
  own_falls (inside_at a (backs any h)) (of_latch j) off e still = absurd (cc e)

  -- gates of guards, but where all guards are false
  pub core_guard_falls : {m : Mode} (c : Control again n (GuardCells choices) (heads choices) m) (q : GuardSpot choices) → control_leave c ≡ false
      → guards_good choices env.bit (control_ask c) (control_guards (low_guards choices) c) ≡ true
      → one_rule_fires (guards_rule choices env.bit (control_ask c) (control_guards (low_guards choices) c) q) ≡ true
      → suc (core_total (asks m) (record (choice_cells {again = again} {choices = choices} (control_at c)) {
        guards = turned_guards choices (control_guards (low_guards choices) c) q;
      })) ≤ core_total (asks m) (choice_cells {again = again} {choices = choices} (control_at c))
  core_guard_falls uncalled q off f e = absurd (not_both (low_guards_quiet choices env.bit q) e)
  core_guard_falls called q off f e = absurd (not_both (low_guards_quiet choices env.bit q) e)
  core_guard_falls (evaluating g) q off f e =
      guards_up again false (some_bit n (low_bits n)) (some_bit n (low_bits n)) (H g) O low_inner G (L g) (L (turned_guards choices g q))
      (H (turned_guards choices g q)) (some_none n) (guards_fall P env clean true choices laws g q f e lack lack_falls)
  core_guard_falls (latched noted i g h) q off f e =
      absurd (not_both (all_full P env.bit clean.single choices laws g q f (alone_valid i (heads choices g) (lock_alone noted _ _ h refl))) e)
  core_guard_falls (latched spread i g h) q off f e =
      absurd (not_both (all_full P env.bit clean.single choices laws g q f (alone_valid i (heads choices g) (lock_alone spread _ _ h refl))) e)
  core_guard_falls (latched freed i g h) q off f e =
      guards_down again true (H g) O low_inner G (L g) false true (some_bit n (hot i true)) (some_bit n (low_bits n)) false (H (turned_guards choices g q))
      (some_hot i true) (some_none n) (guards_fall P env clean false choices laws g q f e mark mark_falls) (L (turned_guards choices g q))
  core_guard_falls (leaving y l g h) q off f e = absurd (cc off)

  -- the branch that is under way
  pub core_inner_falls : {m k : Mode} (a : ChosenAt choices k) (w : Way m k) (s : ChoiceSpot choices)
      → suc (choice_due P choices (hot (chosen_index a) (asks k)) (turned_choice choices (chosen_cells a) s)) ≤ choice_due P choices
      (hot (chosen_index a) (asks k))
      (chosen_cells a)
      → suc (core_total (asks m) (record (choice_cells {again = again} {choices = choices} (inside_at a w)) {
        branches = turned_choice choices (chosen_cells a) s;
      })) ≤ core_total (asks m) (choice_cells {again = again} {choices = choices} (inside_at a w))
  core_inner_falls {m = m} {k = k} a w s less =
      inner_falls again (asks m) (H (low_guards choices)) O (choice_due P choices (hot (chosen_index a) (asks k)) (chosen_cells a)) G
      (L (low_guards choices)) false
      (way_any w) (some_bit n (hot (chosen_index a) (way_latch w))) (some_bit n (hot (chosen_index a) (asks k))) (acks m)
      (choice_due P choices (hot (chosen_index a) (asks k)) (turned_choice choices (chosen_cells a) s))
      (ap (λ b. b || not (some_bit n (hot (chosen_index a) (way_latch w)))) (some_hot (chosen_index a) (asks k))
      ∙ (ap (λ b. asks k || not b) (some_hot (chosen_index a) (way_latch w)) ∙ started w))
      (ap (λ b. b || acks m) (some_hot (chosen_index a) (way_latch w)) ∙ busy w) less
    where
      started : {m k : Mode} (w : Way m k) → (asks k || not (way_latch w)) ≡ true
      started works = refl
      started worked = refl
      started reported = refl
      started letting = refl
      started (backs any {k = k} h) = or_true (asks k)

      busy : {m k : Mode} (w : Way m k) → (way_latch w || acks m) ≡ true
      busy works = refl
      busy worked = refl
      busy reported = refl
      busy letting = refl
      busy (backs any h) = refl

-- a repetition whose guards are all false
leaving_own : (P : TypedProgram) (choices : Choices) (y : true ≡ true) (l : Lock) (g : GuardCells choices)
    (h : lock_may l (over (choice_count choices) (heads choices g)) (nothing_true (choice_count choices) (heads choices g)) ≡ true)
    (s : OwnSpot (choice_count choices))
    → choice_own {choices = choices} (control_at (leaving y l g h)) s ≡ true
    → suc (due P (choosing true choices) true (flipped (choosing true choices) (cells (at_turning {choices = choices} (control_at (leaving y l g h))))
    (of_core s)))
    ≤ due P (choosing true choices) true (cells (at_turning {choices = choices} (control_at (leaving y l g h))))
leaving_own P choices y noted g h of_any e = omega arith
leaving_own P choices y spread g h of_any e = absurd (cc e)
leaving_own P choices y freed g h of_any e = absurd (cc e)
leaving_own P choices y noted g h of_ask e = absurd (cc e)
leaving_own P choices y spread g h of_ask e = omega arith
leaving_own P choices y freed g h of_ask e = absurd (cc e)
leaving_own P choices y l g h of_joined e = absurd (cc e)
leaving_own P choices y l g h (of_latch k) e = absurd (cc e)
leaving_own P choices y l g h (of_start k) e = absurd (cc e)

leaving_guard : (P : TypedProgram) (env : Seen) → Clean P env → (choices : Choices) → GuardsMeet P choices
    → (y : true ≡ true) (l : Lock) (g : GuardCells choices)
    (h : lock_may l (over (choice_count choices) (heads choices g)) (nothing_true (choice_count choices) (heads choices g)) ≡ true) (q : GuardSpot choices)
    → guards_good choices env.bit (lock_ask l) g ≡ true → one_rule_fires (guards_rule choices env.bit (lock_ask l) g q) ≡ true
    → suc (due P (choosing true choices) true (flipped (choosing true choices) (cells (at_turning {choices = choices} (control_at (leaving y l g h))))
    (of_guard q)))
    ≤ due P (choosing true choices) true (cells (at_turning {choices = choices} (control_at (leaving y l g h))))
leaving_guard P env clean choices laws y noted g h q f e =
    absurd (not_both (all_full P env.bit clean.single choices laws g q f
    (false_valid _ (heads choices g) (over_false _ (heads choices g) (lock_alone noted _ _ h refl)))) e)
leaving_guard P env clean choices laws y spread g h q f e =
    absurd (not_both (all_full P env.bit clean.single choices laws g q f
    (false_valid _ (heads choices g) (over_false _ (heads choices g) (lock_alone spread _ _ h refl)))) e)
leaving_guard P env clean choices laws y freed g h q f e =
    let z = guards_fall P env clean false choices laws g q f e mark mark_falls in omega (arith, z)

leaving_answer : (P : TypedProgram) (choices : Choices) (y : true ≡ true) (l : Lock) (g : GuardCells choices)
    (h : lock_may l (over (choice_count choices) (heads choices g)) (nothing_true (choice_count choices) (heads choices g)) ≡ true)
    → suc (due P (choosing true choices) true (flipped (choosing true choices) (cells (at_turning {choices = choices} (control_at (leaving y l g h))))
    (of_round of_answer))) ≤ due P (choosing true choices) true (cells (at_turning {choices = choices} (control_at (leaving y l g h))))
leaving_answer P choices y noted g h = omega arith
leaving_answer P choices y spread g h = omega arith
leaving_answer P choices y freed g h = omega arith

-- round the core
pub round_falls : (P : TypedProgram) {choices : Choices} {m : Mode} (x : ChoiceAt true choices m) (t : RoundSpot) → choice_round x t ≡ true
    → choice_round_steps x t ≡ false
    → suc (due P (choosing true choices) true (flipped (choosing true choices) (cells (at_turning x)) (of_round t))) ≤ due P (choosing true choices) true
    (cells (at_turning x))
round_falls P {choices = choices} (control_at uncalled) of_turn e still =
    turn_up false (some_bit (choice_count choices) (low_bits (choice_count choices))) (some_bit (choice_count choices) (low_bits (choice_count choices)))
    (guards_sum mark choices (low_guards choices)) (choice_most P choices) (choice_due P choices (low_bits (choice_count choices)) (low_choices choices))
    (2 * gates_in choices) (guards_sum lack choices (low_guards choices)) (some_none (choice_count choices))
round_falls P (control_at uncalled) of_leave e still = absurd (cc e)
round_falls P (control_at uncalled) of_answer e still = absurd (cc e)
round_falls P (control_at called) t e still = absurd (cc e)
round_falls P (control_at (evaluating g)) of_leave e still = absurd (cc still)
round_falls P (control_at (evaluating g)) of_turn e still = absurd (cc e)
round_falls P (control_at (evaluating g)) of_answer e still = absurd (cc e)
round_falls P (control_at (latched l i g h)) t e still = absurd (cc e)
round_falls P {choices = choices} (control_at (leaving y l g h)) of_answer e still = leaving_answer P choices y l g h
round_falls P (control_at (leaving y l g h)) of_turn e still = absurd (cc e)
round_falls P (control_at (leaving y l g h)) of_leave e still = absurd (cc e)
round_falls P {choices = choices} (inside_at a reported) of_turn e still =
    turn_down false true (some_bit (choice_count choices) (hot (chosen_index a) true)) (some_bit (choice_count choices) (hot (chosen_index a) true))
    (guards_sum mark choices (low_guards choices)) (choice_most P choices) (choice_due P choices (hot (chosen_index a) true) (chosen_cells a))
    (2 * gates_in choices) (guards_sum lack choices (low_guards choices))
round_falls P (inside_at a reported) of_leave e still = absurd (cc e)
round_falls P (inside_at a reported) of_answer e still = absurd (cc e)
round_falls P (inside_at a works) t e still = absurd (cc e)
round_falls P (inside_at a worked) t e still = absurd (cc e)
round_falls P (inside_at a letting) t e still = absurd (cc e)
round_falls P (inside_at a (backs any h)) t e still = absurd (cc e)

pub turning_own : (P : TypedProgram) (env : Seen) → Clean P env → (choices : Choices) → GuardsMeet P choices → {m : Mode} (x : ChoiceAt true choices m)
    (s : OwnSpot (choice_count choices)) → choice_own x s ≡ true → choice_own_steps x s ≡ false
    → suc (due P (choosing true choices) true (flipped (choosing true choices) (cells (at_turning x)) (of_core s))) ≤ due P (choosing true choices) true
    (cells (at_turning x))
turning_own P env clean choices laws (control_at (leaving y l g h)) s e still = leaving_own P choices y l g h s e
turning_own P env clean choices laws (control_at c) s e still = own_falls P env clean true choices laws (control_at c) s refl e still
turning_own P env clean choices laws (inside_at a w) s e still = own_falls P env clean true choices laws (inside_at a w) s refl e still

pub turning_guard : (P : TypedProgram) (env : Seen) → Clean P env → (choices : Choices) → GuardsMeet P choices → {m : Mode}
    (c : Control true (choice_count choices) (GuardCells choices) (heads choices) m) (q : GuardSpot choices)
    → guards_good choices env.bit (control_ask c) (control_guards (low_guards choices) c) ≡ true
    → one_rule_fires (guards_rule choices env.bit (control_ask c) (control_guards (low_guards choices) c) q) ≡ true
    → suc (due P (choosing true choices) true (flipped (choosing true choices) (cells (at_turning {choices = choices} (control_at c))) (of_guard q)))
    ≤ due P (choosing true choices) true (cells (at_turning {choices = choices} (control_at c)))
turning_guard P env clean choices laws (leaving y l g h) q f e = leaving_guard P env clean choices laws y l g h q f e
turning_guard P env clean choices laws c q f e = core_guard_falls P env clean true choices laws c q refl f e

-- a repetition that has ended
pub closing_falls : (P : TypedProgram) (choices : Choices) {m : Mode} (c : Closing m) (s : OwnSpot (choice_count choices)) → closing_own c s ≡ true
    → suc (due P (choosing true choices) (asks m) (flipped (choosing true choices) (cells (at_closing {choices = choices} c)) (of_core s)))
    ≤ due P (choosing true choices) (asks m) (cells (at_closing {choices = choices} c))
closing_falls P choices lets_any of_any e = omega arith
closing_falls P choices told_all of_any e = absurd (cc e)
closing_falls P choices lets_turn of_any e = absurd (cc e)
closing_falls P choices lets_leave of_any e = absurd (cc e)
closing_falls P choices lets_answer of_any e = absurd (cc e)
closing_falls P choices c of_joined e = absurd (cc e)
closing_falls P choices c of_ask e = absurd (cc e)
closing_falls P choices c (of_latch k) e = absurd (cc e)
closing_falls P choices c (of_start k) e = absurd (cc e)

pub closing_round : (P : TypedProgram) (choices : Choices) {m : Mode} (c : Closing m) (t : RoundSpot) → closing_moves c t ≡ true
    → suc (due P (choosing true choices) (asks m) (flipped (choosing true choices) (cells (at_closing {choices = choices} c)) (of_round t)))
    ≤ due P (choosing true choices) (asks m) (cells (at_closing {choices = choices} c))
closing_round P choices lets_turn of_turn e = omega arith
closing_round P choices lets_leave of_leave e = omega arith
closing_round P choices lets_answer of_answer e = omega arith
closing_round P choices told_all of_turn e = absurd (cc e)
closing_round P choices told_all of_leave e = absurd (cc e)
closing_round P choices told_all of_answer e = absurd (cc e)
closing_round P choices lets_turn of_leave e = absurd (cc e)
closing_round P choices lets_turn of_answer e = absurd (cc e)
closing_round P choices lets_leave of_turn e = absurd (cc e)
closing_round P choices lets_leave of_answer e = absurd (cc e)
closing_round P choices lets_any of_turn e = absurd (cc e)
closing_round P choices lets_any of_leave e = absurd (cc e)
closing_round P choices lets_any of_answer e = absurd (cc e)
closing_round P choices lets_answer of_turn e = absurd (cc e)
closing_round P choices lets_answer of_leave e = absurd (cc e)
