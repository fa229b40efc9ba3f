-- How a part's handshake goes: of two parts that take turns one rests, its request moves only towards what the answer isn't,
-- and its answer only towards the request.
--
-- p, q, s: statements; h, k: where parts stand; t, u, c, d: the same in a sequence or a selection; m, n: modes; r: the request; a, g, b: where a
-- statement, a guarded member, branches are.
use Rattle.std.proofs.Common.{◌≡◌, ◌⊎◌, inl, inr, ℕ, Bool, true, false, List, refl, sym, ap, ◌∙◌, subst}
use Rattle.std.specs.Prelude.{not, if◌then◌else◌}
use Rattle.width_check.specs.Processes.{Process, Processes, and_member, Choices, choice_count}
use Rattle.circuit_places.specs.Lines.{Seen}
use Rattle.circuit_places.specs.Heads.{Index, top, under, Bits, low_bits, hot, bit_of, turned_bit}
use Rattle.circuit_places.specs.Cores.{OwnSpot, of_joined, of_ask, of_any, of_latch, of_start, of_answer, of_turn, of_leave, turned_own}
use Rattle.circuit_places.specs.Circuit.{Cells, ChoiceCells, TurnCells, low, low_choices, low_turn, answer, last_answer, choice_answers, Spot, GuardedSpot, TurnSpot, BranchSpot, ChoiceSpot, child, latch, next, inner, in_members, of_branch, joint, of_loop, ask, in_body, of_core, of_guard, of_choice, of_round, this_choice, other_choice, in_this, in_others, in_last, in_member, in_later, flipped, turned_guarded, turned_choice, turned_branches, turned_turn}
use Rattle.circuit_places.specs.Within.{PartOf, whole, of_member, of_side, of_body, of_arm, ArmPart, this_arm, other_arm, SidePart, this_side, other_side, TurnPart, last_part, first_part, later_part, part_cells, arm_part_cells, side_part_cells, turn_part_cells, part_request, arm_part_request, side_part_request, turn_part_request, InTurns, ArmsInTurns, SidesInTurns, MembersInTurns, Phased}
use Rattle.circuit_places.proofs.HeadFacts.{hot_is}
use Rattle.circuit_places.proofs.CoreControl.{works, worked, reported, letting, backs, isnt_running}
use Rattle.circuit_places.proofs.Places.{Mode, idle, running, answered, returning, asks, acks, inner_may, GuardedAt, At, TurnAt, BranchesAt, g_rests, g_in, g_past, g_back, rests, at_turn, at_side, at_body, and_at, turn_rests, at_last, at_member, at_later, guarded_cells, cells, turn_cells, branch_cells, at_choice, at_turning, at_closing, ChoiceAt, control_at, inside_at, ChosenAt, this_one, another, chosen_index, chosen_cells, choice_cells, choice_own, choice_inner, guarded_moves, moves, chosen_moves, branch_moves, turn_moves, answer_is, turn_answer_is, chosen_answers, low_choice_answers, low_turn_answer, next_is, link, link_next, not_running}
use Rattle.circuit_places.proofs.PartFacts.{low_part, low_arm_part, low_side_part, low_turn_part, unasked, arm_unasked, side_unasked, turn_unasked}

-- the part of a member that is done rests
past_rests : {q p : Process} {k : Mode} (h : PartOf q p) (g : GuardedAt p k) → (k ≡ running → ⊥)
    → (part_request h (guarded_cells g).child (guarded_cells g).inner ≡ false) × (part_cells h (guarded_cells g).inner ≡ low q)
past_rests h g_rests out = (unasked h, low_part h)
past_rests h (g_in u a e) out = absurd (out refl)
past_rests h g_past out = (unasked h, low_part h)
past_rests h (g_back u) out = (unasked h, low_part h)

-- what stands behind a member that runs rests
later_rests : {q p s : Process} {more : Processes} (t : TurnPart q (and_member s more)) (g : GuardedAt p running)
    → (turn_part_request t (guarded_cells g).next (low_turn (and_member s more)) ≡ false) × (turn_part_cells t (low_turn (and_member s more)) ≡ low q)
later_rests {s = s} {more = more} t g = (ap (λ b. turn_part_request t b (low_turn (and_member s more))) (next_is g) ∙ turn_unasked t, low_turn_part t)

-- Of two parts that take turns one rests at least.
mutual
  pub guarded_one_rests : {q s p : Process} {k : Mode} (h : PartOf q p) (j : PartOf s p) → InTurns h j → (g : GuardedAt p k)
      → ((part_request h (guarded_cells g).child (guarded_cells g).inner ≡ false) × (part_cells h (guarded_cells g).inner ≡ low q))
      ⊎ ((part_request j (guarded_cells g).child (guarded_cells g).inner ≡ false) × (part_cells j (guarded_cells g).inner ≡ low s))
  guarded_one_rests h j i g_rests = inl (unasked h, low_part h)
  guarded_one_rests h j i (g_in u a e) = one_rests h j i a
  guarded_one_rests h j i g_past = inl (unasked h, low_part h)
  guarded_one_rests h j i (g_back u) = inl (unasked h, low_part h)

  pub one_rests : {q s p : Process} {m : Mode} (h : PartOf q p) (j : PartOf s p) → InTurns h j → (a : At p m)
      → ((part_request h (asks m) (cells a) ≡ false) × (part_cells h (cells a) ≡ low q))
      ⊎ ((part_request j (asks m) (cells a) ≡ false) × (part_cells j (cells a) ≡ low s))
  one_rests whole j i a = absurd i
  one_rests (of_member t) whole i a = absurd i
  one_rests (of_member t) (of_member u) i rests = inl (turn_unasked t, low_turn_part t)
  one_rests (of_member t) (of_member u) i (at_turn v) = turn_one_rests t u i v
  one_rests (of_side t) whole i a = absurd i
  one_rests (of_side t) (of_side u) i rests = inl (side_unasked t, low_side_part t)
  one_rests (of_side t) (of_side u) i (at_side m y b e) = side_one_rests t u i b
  one_rests (of_body h) whole i a = absurd i
  one_rests (of_body h) (of_body j) i rests = inl (unasked h, low_part h)
  one_rests (of_body h) (of_body j) i (at_body a) = one_rests h j i a
  one_rests (of_arm c) whole i a = absurd i
  one_rests (of_arm {again = false} c) (of_arm d) i rests = inl (arm_unasked c, low_arm_part c)
  one_rests (of_arm {again = false} c) (of_arm d) i (at_choice x) = arm_one_rests c d i x
  one_rests (of_arm {again = true} c) (of_arm d) i rests = inl (arm_unasked c, low_arm_part c)
  one_rests (of_arm {again = true} c) (of_arm d) i (at_turning x) = arm_one_rests c d i x
  one_rests (of_arm {again = true} c) (of_arm d) i (at_closing y) = inl (arm_unasked c, low_arm_part c)

  arm_one_rests : {q s : Process} {again : Bool} {choices : Choices} {m : Mode} (c : ArmPart q choices) (d : ArmPart s choices) → ArmsInTurns c d
      → (x : ChoiceAt again choices m)
      → ((arm_part_request c (choice_cells x).started (choice_cells x).branches ≡ false) × (arm_part_cells c (choice_cells x).branches ≡ low q))
      ⊎ ((arm_part_request d (choice_cells x).started (choice_cells x).branches ≡ false) × (arm_part_cells d (choice_cells x).branches ≡ low s))
  arm_one_rests c d i (control_at y) = inl (arm_unasked c, low_arm_part c)
  arm_one_rests c d i (inside_at a w) = chosen_one_rests c d i a

  chosen_one_rests : {q s : Process} {choices : Choices} {k : Mode} (c : ArmPart q choices) (d : ArmPart s choices) → ArmsInTurns c d → (a : ChosenAt choices k)
      → ((arm_part_request c (hot (chosen_index a) (asks k)) (chosen_cells a) ≡ false) × (arm_part_cells c (chosen_cells a) ≡ low q))
      ⊎ ((arm_part_request d (hot (chosen_index a) (asks k)) (chosen_cells a) ≡ false) × (arm_part_cells d (chosen_cells a) ≡ low s))
  chosen_one_rests (this_arm h) (this_arm j) i (this_one a) = one_rests h j i a
  chosen_one_rests (this_arm h) (this_arm j) i (another a) = inl (unasked h, low_part h)
  chosen_one_rests (other_arm c) (other_arm d) i (this_one a) = inl (arm_unasked c, low_arm_part c)
  chosen_one_rests (other_arm c) (other_arm d) i (another a) = chosen_one_rests c d i a
  chosen_one_rests (this_arm h) (other_arm d) i (this_one a) = inr (arm_unasked d, low_arm_part d)
  chosen_one_rests (this_arm h) (other_arm d) i (another a) = inl (unasked h, low_part h)
  chosen_one_rests (other_arm c) (this_arm j) i (this_one a) = inl (arm_unasked c, low_arm_part c)
  chosen_one_rests (other_arm c) (this_arm j) i (another a) = inr (unasked j, low_part j)

  side_one_rests : {q s : Process} {members : Processes} {ks : List Mode} (t : SidePart q members) (u : SidePart s members) → SidesInTurns t u
      → (b : BranchesAt members ks)
      → ((side_part_request t (branch_cells b) ≡ false) × (side_part_cells t (branch_cells b) ≡ low q))
      ⊎ ((side_part_request u (branch_cells b) ≡ false) × (side_part_cells u (branch_cells b) ≡ low s))
  side_one_rests (this_side h) (this_side j) i (and_at g b) = guarded_one_rests h j i g
  side_one_rests (other_side t) (other_side u) i (and_at g b) = side_one_rests t u i b
  side_one_rests (this_side h) (other_side u) i b = absurd i
  side_one_rests (other_side t) (this_side j) i b = absurd i

  turn_one_rests : {q s : Process} {members : Processes} {m : Mode} (t : TurnPart q members) (u : TurnPart s members) → MembersInTurns t u
      → (v : TurnAt members m)
      → ((turn_part_request t (asks m) (turn_cells v) ≡ false) × (turn_part_cells t (turn_cells v) ≡ low q))
      ⊎ ((turn_part_request u (asks m) (turn_cells v) ≡ false) × (turn_part_cells u (turn_cells v) ≡ low s))
  turn_one_rests t u i turn_rests = inl (turn_unasked t, low_turn_part t)
  turn_one_rests (last_part h) (last_part j) i (at_last a) = one_rests h j i a
  turn_one_rests (first_part h) (first_part j) i (at_member g) = guarded_one_rests h j i g
  turn_one_rests (first_part h) (first_part j) i (at_later g v e) = guarded_one_rests h j i g
  turn_one_rests (later_part t) (later_part u) i (at_member g) = inl (later_rests t g)
  turn_one_rests {q = q} {s = s} (later_part t) (later_part u) i (at_later {k = k} {n = n} {m = m} g v e) = carried (turn_one_rests t u i v)
    where
      there : (guarded_cells g).next ≡ asks n
      there = next_is g ∙ link_next m k n e

      carried : ((turn_part_request t (asks n) (turn_cells v) ≡ false) × (turn_part_cells t (turn_cells v) ≡ low q))
          ⊎ ((turn_part_request u (asks n) (turn_cells v) ≡ false) × (turn_part_cells u (turn_cells v) ≡ low s))
          → ((turn_part_request t (guarded_cells g).next (turn_cells v) ≡ false) × (turn_part_cells t (turn_cells v) ≡ low q))
          ⊎ ((turn_part_request u (guarded_cells g).next (turn_cells v) ≡ false) × (turn_part_cells u (turn_cells v) ≡ low s))
      carried (inl z) = inl (ap (λ b. turn_part_request t b (turn_cells v)) there ∙ z.0, z.1)
      carried (inr z) = inr (ap (λ b. turn_part_request u b (turn_cells v)) there ∙ z.0, z.1)
  turn_one_rests (first_part h) (later_part u) i (at_member g) = inr (later_rests u g)
  turn_one_rests (first_part h) (later_part u) i (at_later {k = k} {n = n} {m = m} g v e) = inl (past_rests h g (not_running m k n e))
  turn_one_rests (later_part t) (first_part j) i (at_member g) = inl (later_rests t g)
  turn_one_rests (later_part t) (first_part j) i (at_later {k = k} {n = n} {m = m} g v e) = inr (past_rests j g (not_running m k n e))

-- where the request of a process moves towards what its answer isn't, so do those of its parts, or they stay
mutual
  pub handed : {q p : Process} (h : PartOf q p) (r now : Bool) (x : Cells p) → now ≡ not (answer p x)
      → Phased (part_request h now x) (part_request h r x) (answer q (part_cells h x))
  handed whole r now x e = inr e
  handed (of_member t) r now x e = turn_handed t r now x e
  handed (of_side t) r now x e = inl refl
  handed (of_body h) r now x e = inl refl
  handed (of_arm {again = false} c) r now x e = inl refl
  handed (of_arm {again = true} c) r now x e = inl refl

  turn_handed : {q : Process} {members : Processes} (t : TurnPart q members) (r now : Bool) (x : TurnCells members) → now ≡ not (last_answer members x)
      → Phased (turn_part_request t now x) (turn_part_request t r x) (answer q (turn_part_cells t x))
  turn_handed (last_part h) r now x e = handed h r now x e
  turn_handed (first_part h) r now x e = inl refl
  turn_handed (later_part t) r now x e = inl refl

arm_handed : {q : Process} {choices : Choices} (c : ArmPart q choices) (i : Index (choice_count choices)) (b : Bits (choice_count choices))
    (x : ChoiceCells choices) → not (bit_of i b) ≡ not (bit_of i (choice_answers choices x))
    → Phased (arm_part_request c (turned_bit i b) x) (arm_part_request c b x) (answer q (arm_part_cells c x))
arm_handed (this_arm h) top b x e = handed h b.0 (not b.0) x.0 e
arm_handed (this_arm h) (under i) b x e = inl refl
arm_handed (other_arm c) top b x e = inl refl
arm_handed (other_arm c) (under i) b x e = arm_handed c i b.1 x.1 e

same_if : (r d : Bool) → (if r then d else not d) ≡ true → r ≡ d
same_if true true e = refl
same_if true false e = absurd (cc e)
same_if false true e = absurd (cc e)
same_if false false e = refl

-- the child request of a Q-element moves where the child's answer is as it
child_turns : (u : Bool) (k : Mode) → inner_may u k ≡ true → (if asks k then u else not u) ≡ true → asks k ≡ acks k
child_turns u idle h e = refl
child_turns true running h e = absurd (cc h)
child_turns false running h e = absurd (cc e)
child_turns u answered h e = refl
child_turns true returning h e = absurd (cc e)
child_turns false returning h e = absurd (cc h)

back_answered : (m n : Mode) → link m returning n ≡ true → acks n ≡ true
back_answered returning answered h = refl
back_answered idle n h = absurd (cc h)
back_answered running n h = absurd (cc h)
back_answered answered n h = absurd (cc h)
back_answered returning idle h = absurd (cc h)
back_answered returning running h = absurd (cc h)
back_answered returning returning h = absurd (cc h)

-- a start that falls had its branch answer
start_falls : (k : Mode) {n : ℕ} (i j : Index n) → isnt_running k ≡ true → bit_of i (hot j (asks k)) ≡ true
    → bit_of i (hot j (asks k)) ≡ bit_of i (hot j (acks k))
start_falls idle i j h e = refl
start_falls running i j h e = absurd (cc h)
start_falls answered i j h e = refl
start_falls returning i j h e = absurd (cc (hot_is j i false e).1)

own_phase : {q : Process} {again : Bool} {choices : Choices} {m : Mode} (c : ArmPart q choices) (x : ChoiceAt again choices m)
    (s : OwnSpot (choice_count choices))
    → choice_own x s ≡ true
    → Phased (arm_part_request c (turned_own (choice_cells x) s).started (turned_own (choice_cells x) s).branches)
    (arm_part_request c (choice_cells x).started (choice_cells x).branches) (answer q (arm_part_cells c (choice_cells x).branches))
own_phase c x of_joined e = inl refl
own_phase c x of_ask e = inl refl
own_phase c x of_any e = inl refl
own_phase c x (of_latch i) e = inl refl
own_phase {choices = choices} c (control_at y) (of_start i) e =
    arm_handed c i (low_bits (choice_count choices)) (low_choices choices) (ap (λ z. not (bit_of i z)) (sym (low_choice_answers choices)))
own_phase c (inside_at a works) (of_start i) e = absurd (cc e)
own_phase c (inside_at a worked) (of_start i) e = absurd (cc e)
own_phase c (inside_at a reported) (of_start i) e = absurd (cc e)
own_phase c (inside_at a letting) (of_start i) e = absurd (cc e)
own_phase {choices = choices} c (inside_at {k = k} a (backs any h)) (of_start i) e =
    arm_handed c i (hot (chosen_index a) (asks k)) (chosen_cells a)
    (ap not (start_falls k i (chosen_index a) h e ∙ ap (λ z. bit_of i z) (sym (chosen_answers a))))

-- The request of a part moves only towards what its answer isn't.
mutual
  pub guarded_phase : {q p : Process} {k : Mode} (h : PartOf q p) (env : Seen) (g : GuardedAt p k) (s : GuardedSpot p) → guarded_moves env g s ≡ true
      → Phased (part_request h (turned_guarded p (guarded_cells g) s).child (turned_guarded p (guarded_cells g) s).inner)
      (part_request h (guarded_cells g).child (guarded_cells g).inner) (answer q (part_cells h (guarded_cells g).inner))
  guarded_phase h env g_rests s e = absurd (cc e)
  guarded_phase h env (g_in {m = m} u a l) child e =
      handed h (asks m) (not (asks m)) (cells a) (ap not (child_turns u m l e ∙ sym (answer_is a)))
  guarded_phase h env (g_in u a l) latch e = inl refl
  guarded_phase h env (g_in u a l) next e = inl refl
  guarded_phase h env (g_in u a l) (inner s) e = phase h env a s e
  guarded_phase h env g_past s e = absurd (cc e)
  guarded_phase h env (g_back u) child e = absurd (cc e)
  guarded_phase h env (g_back u) latch e = inl refl
  guarded_phase h env (g_back u) next e = inl refl
  guarded_phase h env (g_back u) (inner s) e = absurd (cc e)

  pub phase : {q p : Process} {m : Mode} (h : PartOf q p) (env : Seen) (a : At p m) (s : Spot p) → moves env a s ≡ true
      → Phased (part_request h (asks m) (flipped p (cells a) s)) (part_request h (asks m) (cells a)) (answer q (part_cells h (cells a)))
  phase whole env a s e = inl refl
  phase (of_member t) env rests s e = absurd (cc e)
  phase (of_member t) env (at_turn v) (in_members s) e = turn_phase t env v s e
  phase (of_side t) env rests s e = absurd (cc e)
  phase (of_side t) env (at_side m y b l) (of_branch s) e = side_phase t env b s e
  phase (of_side t) env (at_side m y b l) (joint i) e = inl refl
  phase (of_body h) env rests s e = absurd (cc e)
  phase (of_body h) env (at_body a) of_loop e = absurd (cc e)
  phase (of_body h) env (at_body {m = m} a) ask e = handed h (asks m) (not (asks m)) (cells a) (ap not (same_if (asks m) (acks m) e ∙ sym (answer_is a)))
  phase (of_body h) env (at_body a) (in_body s) e = phase h env a s e
  phase (of_arm {again = false} c) env rests s e = absurd (cc e)
  phase (of_arm {again = false} c) env (at_choice x) (of_core s) e = own_phase c x s e
  phase (of_arm {again = false} c) env (at_choice x) (of_guard s) e = inl refl
  phase (of_arm {again = false} c) env (at_choice x) (of_choice s) e = arm_phase c env x s e
  phase (of_arm {again = true} c) env rests s e = absurd (cc e)
  phase (of_arm {again = true} c) env (at_turning x) (of_core s) e = own_phase c x s e
  phase (of_arm {again = true} c) env (at_turning x) (of_guard s) e = inl refl
  phase (of_arm {again = true} c) env (at_turning x) (of_choice s) e = arm_phase c env x s e
  phase (of_arm {again = true} c) env (at_turning x) (of_round of_answer) e = inl refl
  phase (of_arm {again = true} c) env (at_turning x) (of_round of_turn) e = inl refl
  phase (of_arm {again = true} c) env (at_turning x) (of_round of_leave) e = inl refl
  phase (of_arm {again = true} c) env (at_closing y) (of_core of_joined) e = inl refl
  phase (of_arm {again = true} c) env (at_closing y) (of_core of_ask) e = inl refl
  phase (of_arm {again = true} c) env (at_closing y) (of_core of_any) e = inl refl
  phase (of_arm {again = true} c) env (at_closing y) (of_core (of_latch i)) e = inl refl
  phase (of_arm {again = true} c) env (at_closing y) (of_core (of_start i)) e = absurd (cc e)
  phase (of_arm {again = true} c) env (at_closing y) (of_guard s) e = absurd (cc e)
  phase (of_arm {again = true} c) env (at_closing y) (of_choice s) e = absurd (cc e)
  phase (of_arm {again = true} c) env (at_closing y) (of_round of_answer) e = inl refl
  phase (of_arm {again = true} c) env (at_closing y) (of_round of_turn) e = inl refl
  phase (of_arm {again = true} c) env (at_closing y) (of_round of_leave) e = inl refl

  arm_phase : {q : Process} {again : Bool} {choices : Choices} {m : Mode} (c : ArmPart q choices) (env : Seen) (x : ChoiceAt again choices m)
      (s : ChoiceSpot choices)
      → choice_inner env x s ≡ true
      → Phased (arm_part_request c (choice_cells x).started (turned_choice choices (choice_cells x).branches s))
      (arm_part_request c (choice_cells x).started (choice_cells x).branches) (answer q (arm_part_cells c (choice_cells x).branches))
  arm_phase c env (control_at y) s e = absurd (cc e)
  arm_phase c env (inside_at a w) s e = chosen_phase c env a s e

  chosen_phase : {q : Process} {choices : Choices} {k : Mode} (c : ArmPart q choices) (env : Seen) (a : ChosenAt choices k) (s : ChoiceSpot choices)
      → chosen_moves env a s ≡ true
      → Phased (arm_part_request c (hot (chosen_index a) (asks k)) (turned_choice choices (chosen_cells a) s))
      (arm_part_request c (hot (chosen_index a) (asks k)) (chosen_cells a)) (answer q (arm_part_cells c (chosen_cells a)))
  chosen_phase (this_arm h) env (this_one a) (this_choice s) e = phase h env a s e
  chosen_phase (other_arm c) env (this_one a) (this_choice s) e = inl refl
  chosen_phase (this_arm h) env (another a) (other_choice s) e = inl refl
  chosen_phase (other_arm c) env (another a) (other_choice s) e = chosen_phase c env a s e
  chosen_phase c env (this_one a) (other_choice s) e = absurd (cc e)
  chosen_phase c env (another a) (this_choice s) e = absurd (cc e)

  side_phase : {q : Process} {members : Processes} {ks : List Mode} (t : SidePart q members) (env : Seen) (b : BranchesAt members ks) (s : BranchSpot members)
      → branch_moves env b s ≡ true
      → Phased (side_part_request t (turned_branches members (branch_cells b) s)) (side_part_request t (branch_cells b))
      (answer q (side_part_cells t (branch_cells b)))
  side_phase (this_side h) env (and_at g b) (in_this s) e = guarded_phase h env g s e
  side_phase (this_side h) env (and_at g b) (in_others s) e = inl refl
  side_phase (other_side t) env (and_at g b) (in_this s) e = inl refl
  side_phase (other_side t) env (and_at g b) (in_others s) e = side_phase t env b s e

  turn_phase : {q : Process} {members : Processes} {m : Mode} (t : TurnPart q members) (env : Seen) (v : TurnAt members m) (s : TurnSpot members)
      → turn_moves env v s ≡ true
      → Phased (turn_part_request t (asks m) (turned_turn members (turn_cells v) s)) (turn_part_request t (asks m) (turn_cells v))
      (answer q (turn_part_cells t (turn_cells v)))
  turn_phase t env turn_rests s e = absurd (cc e)
  turn_phase (last_part h) env (at_last a) (in_last s) e = phase h env a s e
  turn_phase (first_part h) env (at_member g) (in_member s) e = guarded_phase h env g s e
  turn_phase (first_part h) env (at_member g) (in_later s) e = inl refl
  turn_phase (first_part h) env (at_later g v l) (in_member s) e = guarded_phase h env g s e
  turn_phase (first_part h) env (at_later g v l) (in_later s) e = inl refl
  turn_phase (later_part t) env (at_member g) (in_member child) e = inl refl
  turn_phase (later_part t) env (at_member g) (in_member latch) e = inl refl
  turn_phase (later_part {s = s} {more = more} t) env (at_member (g_in u a l)) (in_member next) e =
      turn_handed t false true (low_turn (and_member s more)) (ap not (sym (low_turn_answer (and_member s more))))
  turn_phase (later_part t) env (at_member g) (in_member (inner s)) e = inl refl
  turn_phase (later_part t) env (at_member g) (in_later s) e = absurd (cc e)
  turn_phase (later_part t) env (at_later g v l) (in_member child) e = inl refl
  turn_phase (later_part t) env (at_later g v l) (in_member latch) e = inl refl
  turn_phase (later_part t) env (at_later g_rests v l) (in_member next) e = absurd (cc e)
  turn_phase (later_part t) env (at_later {k = k} {n = n} {m = m} (g_in u a i) v l) (in_member next) e = absurd (not_running m k n l refl)
  turn_phase (later_part t) env (at_later g_past v l) (in_member next) e = absurd (cc e)
  turn_phase (later_part {s = s} {more = more} t) env (at_later {n = n} {m = m} (g_back u) v l) (in_member next) e =
      turn_handed t true false (turn_cells v) (ap not (sym (turn_answer_is v ∙ back_answered m n l)))
  turn_phase (later_part t) env (at_later g v l) (in_member (inner s)) e = inl refl
  turn_phase {q = q} (later_part {s = p} {more = more} t) env (at_later {k = k} {n = n} {m = m} g v l) (in_later s) e =
      subst (λ (b : Bool). Phased (turn_part_request t b (turned_turn (and_member p more) (turn_cells v) s)) (turn_part_request t b (turn_cells v))
      (answer q (turn_part_cells t (turn_cells v)))) (sym (next_is g ∙ link_next m k n l)) (turn_phase t env v s e)
