-- Where a part of a process is while the process is somewhere: its own place, its mode, and what may not move there.
use Rattle.std.proofs.Common.{◌≡◌, Bool, true, false, List, refl, ap, ◌∙◌}
use Rattle.width_check.specs.Processes.{Process, Processes, and_member, TypedProgram, Choices, choice_count}
use Rattle.circuit_places.specs.Lines.{Seen}
use Rattle.circuit_places.specs.Heads.{Bits, low_bits, hot}
use Rattle.circuit_places.specs.Circuit.{Cells, ChoiceCells, BranchCells, TurnCells, low, low_choices, low_branches, low_turn, answer, Spot, one_rule_fires, rule, choice_rule, branch_rule, turn_rule}
use Rattle.circuit_places.specs.Within.{PartOf, whole, of_member, of_side, of_body, of_arm, ArmPart, this_arm, other_arm, SidePart, this_side, other_side, TurnPart, last_part, first_part, later_part, part_cells, arm_part_cells, side_part_cells, turn_part_cells, part_request, arm_part_request, side_part_request, turn_part_request, part_spot, arm_part_spot, side_part_spot, turn_part_spot}
use Rattle.circuit_places.proofs.Places.{Mode, idle, running, answered, returning, asks, GuardedAt, At, TurnAt, BranchesAt, g_rests, g_in, g_past, g_back, rests, at_turn, at_side, at_body, and_at, turn_rests, at_last, at_member, at_later, guarded_cells, cells, turn_cells, branch_cells, GuardedFits, Fits, TurnFits, BranchesFit, at_choice, at_turning, at_closing, ChoiceAt, control_at, inside_at, ChosenAt, this_one, another, chosen_index, chosen_cells, choice_cells, ChoiceFits, ChosenFits, answer_is, next_is, link_next, not_running, can_is, low_quiet}
use Rattle.circuit_places.proofs.Begin.{idle_is, answered_moves}
use Rattle.circuit_places.proofs.Flow.{Clean}

-- a part of what is low is low
mutual
  pub low_part : {q p : Process} (h : PartOf q p) → part_cells h (low p) ≡ low q
  low_part whole = refl
  low_part (of_member t) = low_turn_part t
  low_part (of_side s) = low_side_part s
  low_part (of_body h) = low_part h
  low_part (of_arm {again = false} c) = low_arm_part c
  low_part (of_arm {again = true} c) = low_arm_part c

  pub low_arm_part : {q : Process} {choices : Choices} (c : ArmPart q choices) → arm_part_cells c (low_choices choices) ≡ low q
  low_arm_part (this_arm h) = low_part h
  low_arm_part (other_arm c) = low_arm_part c

  pub low_side_part : {q : Process} {members : Processes} (s : SidePart q members) → side_part_cells s (low_branches members) ≡ low q
  low_side_part (this_side h) = low_part h
  low_side_part (other_side s) = low_side_part s

  pub low_turn_part : {q : Process} {members : Processes} (t : TurnPart q members) → turn_part_cells t (low_turn members) ≡ low q
  low_turn_part (last_part h) = low_part h
  low_turn_part (first_part h) = low_part h
  low_turn_part (later_part t) = low_turn_part t

-- and isn't asked
mutual
  pub unasked : {q p : Process} (h : PartOf q p) → part_request h false (low p) ≡ false
  unasked whole = refl
  unasked (of_member t) = turn_unasked t
  unasked (of_side s) = side_unasked s
  unasked (of_body h) = unasked h
  unasked (of_arm {again = false} c) = arm_unasked c
  unasked (of_arm {again = true} c) = arm_unasked c

  pub arm_unasked : {q : Process} {choices : Choices} (c : ArmPart q choices)
      → arm_part_request c (low_bits (choice_count choices)) (low_choices choices) ≡ false
  arm_unasked (this_arm h) = unasked h
  arm_unasked (other_arm c) = arm_unasked c

  pub side_unasked : {q : Process} {members : Processes} (s : SidePart q members) → side_part_request s (low_branches members) ≡ false
  side_unasked (this_side h) = unasked h
  side_unasked (other_side s) = side_unasked s

  pub turn_unasked : {q : Process} {members : Processes} (t : TurnPart q members) → turn_part_request t false (low_turn members) ≡ false
  turn_unasked (last_part h) = unasked h
  turn_unasked (first_part h) = unasked h
  turn_unasked (later_part t) = turn_unasked t

-- where a part is whose request and cells have these values
pub record PartAt (q : Process) (r : Bool) (x : Cells q) (env : Seen) : Type 0 where
  pub mode : Mode
  pub place : At q mode
  pub same : x ≡ cells place
  pub asked : r ≡ asks mode
  pub fits : Fits place env

at_rest : {q : Process} (r : Bool) (x : Cells q) (env : Seen) → x ≡ low q → r ≡ false → PartAt q r x env
at_rest r x env e f = record { mode = idle; place = rests; same = e; asked = f; fits = tt }

-- the part of a member that is done
past_part_at : {q p : Process} {k : Mode} (h : PartOf q p) (env : Seen) (g : GuardedAt p k) → (k ≡ running → ⊥)
    → PartAt q (part_request h (guarded_cells g).child (guarded_cells g).inner) (part_cells h (guarded_cells g).inner) env
past_part_at {p = p} h env g_rests out = at_rest (part_request h false (low p)) (part_cells h (low p)) env (low_part h) (unasked h)
past_part_at h env (g_in u a e) out = absurd (out refl)
past_part_at {p = p} h env g_past out = at_rest (part_request h false (low p)) (part_cells h (low p)) env (low_part h) (unasked h)
past_part_at {p = p} h env (g_back u) out = at_rest (part_request h false (low p)) (part_cells h (low p)) env (low_part h) (unasked h)

mutual
  pub guarded_part_at : {q p : Process} {k : Mode} (h : PartOf q p) (env : Seen) (g : GuardedAt p k) → GuardedFits g env
      → PartAt q (part_request h (guarded_cells g).child (guarded_cells g).inner) (part_cells h (guarded_cells g).inner) env
  guarded_part_at {p = p} h env g_rests f = at_rest (part_request h false (low p)) (part_cells h (low p)) env (low_part h) (unasked h)
  guarded_part_at h env (g_in u a e) f = part_at h env a f
  guarded_part_at {p = p} h env g_past f = at_rest (part_request h false (low p)) (part_cells h (low p)) env (low_part h) (unasked h)
  guarded_part_at {p = p} h env (g_back u) f = at_rest (part_request h false (low p)) (part_cells h (low p)) env (low_part h) (unasked h)

  pub part_at : {q p : Process} {m : Mode} (h : PartOf q p) (env : Seen) (a : At p m) → Fits a env
      → PartAt q (part_request h (asks m) (cells a)) (part_cells h (cells a)) env
  part_at {m = m} whole env a f = record { mode = m; place = a; same = refl; asked = refl; fits = f }
  part_at (of_member {members = members} t) env rests f =
      at_rest (turn_part_request t false (low_turn members)) (turn_part_cells t (low_turn members)) env (low_turn_part t) (turn_unasked t)
  part_at (of_member t) env (at_turn u) f = turn_part_at t env u f
  part_at (of_side {members = members} s) env rests f =
      at_rest (side_part_request s (low_branches members)) (side_part_cells s (low_branches members)) env (low_side_part s) (side_unasked s)
  part_at (of_side s) env (at_side m t b e) f = side_part_at s env b f
  part_at (of_body {p = p} h) env rests f = at_rest (part_request h false (low p)) (part_cells h (low p)) env (low_part h) (unasked h)
  part_at (of_body h) env (at_body a) f = part_at h env a f
  part_at (of_arm {again = false} {choices = choices} c) env rests f =
      at_rest (arm_part_request c (low_bits (choice_count choices)) (low_choices choices)) (arm_part_cells c (low_choices choices)) env (low_arm_part c)
      (arm_unasked c)
  part_at (of_arm {again = false} c) env (at_choice x) f = arm_part_at c env x f
  part_at (of_arm {again = true} {choices = choices} c) env rests f =
      at_rest (arm_part_request c (low_bits (choice_count choices)) (low_choices choices)) (arm_part_cells c (low_choices choices)) env (low_arm_part c)
      (arm_unasked c)
  part_at (of_arm {again = true} c) env (at_turning x) f = arm_part_at c env x f
  part_at (of_arm {again = true} {choices = choices} c) env (at_closing y) f =
      at_rest (arm_part_request c (low_bits (choice_count choices)) (low_choices choices)) (arm_part_cells c (low_choices choices)) env (low_arm_part c)
      (arm_unasked c)

  pub arm_part_at : {q : Process} {again : Bool} {choices : Choices} {m : Mode} (c : ArmPart q choices) (env : Seen) (x : ChoiceAt again choices m)
      → ChoiceFits x env → PartAt q (arm_part_request c (choice_cells x).started (choice_cells x).branches) (arm_part_cells c (choice_cells x).branches) env
  arm_part_at {choices = choices} c env (control_at y) f =
      at_rest (arm_part_request c (low_bits (choice_count choices)) (low_choices choices)) (arm_part_cells c (low_choices choices)) env (low_arm_part c)
      (arm_unasked c)
  arm_part_at c env (inside_at a w) f = chosen_part_at c env a f

  pub chosen_part_at : {q : Process} {choices : Choices} {k : Mode} (c : ArmPart q choices) (env : Seen) (a : ChosenAt choices k) → ChosenFits a env
      → PartAt q (arm_part_request c (hot (chosen_index a) (asks k)) (chosen_cells a)) (arm_part_cells c (chosen_cells a)) env
  chosen_part_at (this_arm h) env (this_one a) f = part_at h env a f
  chosen_part_at (this_arm {p = p} h) env (another a) f = at_rest (part_request h false (low p)) (part_cells h (low p)) env (low_part h) (unasked h)
  chosen_part_at (other_arm {more = more} c) env (this_one a) f =
      at_rest (arm_part_request c (low_bits (choice_count more)) (low_choices more)) (arm_part_cells c (low_choices more)) env (low_arm_part c) (arm_unasked c)
  chosen_part_at (other_arm c) env (another a) f = chosen_part_at c env a f

  pub side_part_at : {q : Process} {members : Processes} {ks : List Mode} (s : SidePart q members) (env : Seen) (b : BranchesAt members ks)
      → BranchesFit b env → PartAt q (side_part_request s (branch_cells b)) (side_part_cells s (branch_cells b)) env
  side_part_at (this_side h) env (and_at g b) f = guarded_part_at h env g f.0
  side_part_at (other_side s) env (and_at g b) f = side_part_at s env b f.1

  pub turn_part_at : {q : Process} {members : Processes} {m : Mode} (t : TurnPart q members) (env : Seen) (u : TurnAt members m) → TurnFits u env
      → PartAt q (turn_part_request t (asks m) (turn_cells u)) (turn_part_cells t (turn_cells u)) env
  turn_part_at {members = members} t env turn_rests f =
      at_rest (turn_part_request t false (low_turn members)) (turn_part_cells t (low_turn members)) env (low_turn_part t) (turn_unasked t)
  turn_part_at (last_part h) env (at_last a) f = part_at h env a f
  turn_part_at (first_part h) env (at_member g) f = guarded_part_at h env g f
  turn_part_at (first_part h) env (at_later {k = k} {n = n} {m = m} g u e) f = past_part_at h env g (not_running m k n e)
  turn_part_at (later_part {s = s} {more = more} t) env (at_member g) f =
      at_rest (turn_part_request t (guarded_cells g).next (low_turn (and_member s more))) (turn_part_cells t (low_turn (and_member s more))) env
      (low_turn_part t) (ap (λ b. turn_part_request t b (low_turn (and_member s more))) (next_is g) ∙ turn_unasked t)
  turn_part_at (later_part t) env (at_later {k = k} {n = n} {m = m} g u e) f =
      let z = turn_part_at t env u f in
      record {
        mode = z.mode;
        place = z.place;
        same = z.same;
        asked = ap (λ b. turn_part_request t b (turn_cells u)) (next_is g ∙ link_next m k n e) ∙ z.asked;
        fits = z.fits;
      }

-- A part that has answered moves no node of its own before its request falls.
pub part_still : (P : TypedProgram) {q : Process} (r : Bool) (x : Cells q) (env : Seen) → Clean P env → PartAt q r x env → r ≡ true → answer q x ≡ true
    → (s : Spot q) → one_rule_fires (rule q env r x s) ≡ false
part_still P {q = q} r x env clean z e d s = here z.mode z.place z.same z.asked z.fits
  where
    here : (m : Mode) (a : At q m) → x ≡ cells a → r ≡ asks m → Fits a env → one_rule_fires (rule q env r x s) ≡ false
    here idle a i j f = absurd (cc (e, j))
    here running a i j f = absurd (cc (d, ap (answer q) i, answer_is a))
    here answered a i j f = ap (λ b. one_rule_fires (rule q env b x s)) j
        ∙ (ap (λ y. one_rule_fires (rule q env true y s)) i ∙ (can_is env a s ∙ answered_moves P env clean a f s))
    here returning a i j f = absurd (cc (e, j))

-- A part whose request and answer are low has its first values.
pub part_low : {q : Process} (r : Bool) (x : Cells q) (env : Seen) → PartAt q r x env → r ≡ false → answer q x ≡ false → x ≡ low q
part_low {q = q} r x env z e d = here z.mode z.place z.same z.asked
  where
    here : (m : Mode) (a : At q m) → x ≡ cells a → r ≡ asks m → x ≡ low q
    here idle a i j = i ∙ (idle_is a).0
    here running a i j = absurd (cc (e, j))
    here answered a i j = absurd (cc (e, j))
    here returning a i j = absurd (cc (d, ap (answer q) i, answer_is a))

-- Where a part has its first values and isn't asked, no node of its own moves, whatever stands round it.
pub part_rests : {q : Process} (r : Bool) (x : Cells q) (env : Seen) → r ≡ false → x ≡ low q → (s : Spot q) → one_rule_fires (rule q env r x s) ≡ false
part_rests {q = q} r x env e i s = ap (λ b. one_rule_fires (rule q env b x s)) e ∙ (ap (λ y. one_rule_fires (rule q env false y s)) i ∙ low_quiet q env s)

-- The rules of a part are those of the process.
mutual
  pub part_rule : {q p : Process} (h : PartOf q p) (env : Seen) (r : Bool) (x : Cells p) (s : Spot q)
      → rule p env r x (part_spot h s) ≡ rule q env (part_request h r x) (part_cells h x) s
  part_rule whole env r x s = refl
  part_rule (of_member t) env r x s = turn_part_rule t env r x s
  part_rule (of_side k) env r x s = side_part_rule k env r x.branches s
  part_rule (of_body h) env r x s = part_rule h env x.ask x.inner s
  part_rule (of_arm {again = false} c) env r x s = arm_part_rule c env x.started x.branches s
  part_rule (of_arm {again = true} c) env r x s = arm_part_rule c env x.core.started x.core.branches s

  arm_part_rule : {q : Process} {choices : Choices} (c : ArmPart q choices) (env : Seen) (b : Bits (choice_count choices)) (x : ChoiceCells choices)
      (s : Spot q)
      → choice_rule choices env b x (arm_part_spot c s) ≡ rule q env (arm_part_request c b x) (arm_part_cells c x) s
  arm_part_rule (this_arm h) env b x s = part_rule h env b.0 x.0 s
  arm_part_rule (other_arm c) env b x s = arm_part_rule c env b.1 x.1 s

  side_part_rule : {q : Process} {members : Processes} (k : SidePart q members) (env : Seen) (r : Bool) (x : BranchCells members) (s : Spot q)
      → branch_rule members env r x (side_part_spot k s) ≡ rule q env (side_part_request k x) (side_part_cells k x) s
  side_part_rule (this_side h) env r x s = part_rule h env x.0.child x.0.inner s
  side_part_rule (other_side k) env r x s = side_part_rule k env r x.1 s

  turn_part_rule : {q : Process} {members : Processes} (t : TurnPart q members) (env : Seen) (r : Bool) (x : TurnCells members) (s : Spot q)
      → turn_rule members env r x (turn_part_spot t s) ≡ rule q env (turn_part_request t r x) (turn_part_cells t x) s
  turn_part_rule (last_part h) env r x s = part_rule h env r x s
  turn_part_rule (first_part h) env r x s = part_rule h env x.member.child x.member.inner s
  turn_part_rule (later_part t) env r x s = turn_part_rule t env x.member.next x.later s
