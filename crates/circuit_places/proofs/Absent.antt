-- A spot that stands for no node never moves.
use Rattle.std.proofs.Common.{◌≡◌, ℕ, ◌<◌, ◌≤◌, Bool, true, false, List, refl, ◌∙◌, subst, arith}
use Rattle.std.specs.Prelude.{nat_lt, ◌&&◌, not, if◌then◌else◌}
use Rattle.std.proofs.lemmas.Bool.Decides.{nat_tests}
use Rattle.width_check.specs.Processes.{Formula, Process, Processes, member_count, TypedProgram, Choices, no_choices, and_choice}
use Rattle.width_check.specs.Typing.{channel_width}
use Rattle.circuit_places.specs.Lines.{Line, of_channel, of_var, Rails, Seen}
use Rattle.circuit_places.specs.Circuit.{SiteSpot, PortSpot, site_stands, port_stands, Pairs, gate_count, gate_rule, one_rule_fires, cell_bit, joint_count, GuardedSpot, Spot, TurnSpot, BranchSpot, heard, stored, taking, child, latch, next, inner, of_skip, done, gate, of_assign, of_send, of_receive, in_members, of_branch, joint, in_this, in_others, of_loop, ask, in_body, in_last, in_member, in_later, guarded_stands, stands, turn_stands, branch_stands, GuardCells, GuardSpot, this_gate, other_gate, ChoiceSpot, this_choice, other_choice, of_core, of_guard, of_choice, of_round, guard_stands, choice_stands, guards_rule, low_guards}
use Rattle.circuit_places.proofs.RailLemmas.{gate_there, snd_true}
use Rattle.circuit_places.proofs.Trees.{joint_absent}
use Rattle.circuit_places.proofs.Meets.{PortMeets, Meets, TurnMeets, EachMeets, ChoiceMeets}
use Rattle.circuit_places.proofs.Flow.{Clean, cases}
use Rattle.circuit_places.proofs.Places.{Mode, running, asks, not_running, GuardedAt, At, TurnAt, BranchesAt, g_rests, g_in, g_past, g_back, rests, at_skip, at_assign, at_send, at_receive, at_turn, at_side, at_body, no_more, and_at, turn_rests, at_last, at_member, at_later, ends, site_moves, port_moves, PortFits, GuardedFits, Fits, TurnFits, BranchesFit, guarded_moves, moves, turn_moves, branch_moves, at_choice, at_turning, at_closing, ChoiceAt, control_at, inside_at, ChosenAt, this_one, another, ChosenFits, choice_guard, choice_inner, chosen_moves, ChoiceFits}
use Rattle.circuit_places.proofs.CoreControl.{control_ask, control_guards}

not_below : (i n : ℕ) → nat_lt i n ≡ false → n ≤ i
not_below i n h = grind (arith, nat_tests)

past : (i n : ℕ) → nat_lt i n ≡ false → i < n → ⊥
past i n h less = let g = not_below i n h in let z : ⊥ = omega (arith, g, less) in z

absent_site : (env : Seen) (k : Line) (e : Formula) (m : Mode) (u : Pairs (gate_count e)) (s : SiteSpot e) → site_stands s ≡ false
    → site_moves env k e m u s ≡ false
absent_site env k e m u done h = absurd (cc h)
absent_site env k e m u (gate i one) h = cases (one_rule_fires (gate_rule e env.bit (asks m) u i one))
    (λ (z : one_rule_fires (gate_rule e env.bit (asks m) u i one) ≡ true). absurd (past i (gate_count e) h (gate_there e env.bit (asks m) u i one z)))
    (λ (z : one_rule_fires (gate_rule e env.bit (asks m) u i one) ≡ false). z)

absent_guard : (choices : Choices) (bits : ℕ → Rails) (r : Bool) (x : GuardCells choices) (s : GuardSpot choices) → guard_stands s ≡ false
    → one_rule_fires (guards_rule choices bits r x s) ≡ false
absent_guard (and_choice g p more) bits r x (this_gate i one) h = cases (one_rule_fires (gate_rule g bits r x.0 i one))
    (λ (z : one_rule_fires (gate_rule g bits r x.0 i one) ≡ true). absurd (past i (gate_count g) h (gate_there g bits r x.0 i one z)))
    (λ (z : one_rule_fires (gate_rule g bits r x.0 i one) ≡ false). z)
absent_guard (and_choice g p more) bits r x (other_gate s) h = absent_guard more bits r x.1 s h
absent_guard no_choices bits r x s h = elim s [ ]

absent_choice_guard : {again : Bool} {choices : Choices} {m : Mode} (env : Seen) (x : ChoiceAt again choices m) (s : GuardSpot choices)
    → guard_stands s ≡ false → choice_guard env x s ≡ false
absent_choice_guard {choices = choices} env (control_at c) s h = absent_guard choices env.bit (control_ask c) (control_guards (low_guards choices) c) s h
absent_choice_guard env (inside_at a w) s h = refl

module _ (P : TypedProgram) (env : Seen) (clean : Clean P env) where
  absent_port : (c x : ℕ) (m : Mode) (k : Bool) (q : Rails) → PortMeets P c x → PortFits c x m k q env → (s : PortSpot)
      → port_stands (channel_width P.channels c) s ≡ false → port_moves env c x m k q s ≡ false
  absent_port c x m k q meets f heard h = absurd (cc h)
  absent_port c x m k q meets f stored h = absurd (cc h)
  absent_port c x m k q meets f (taking i one) h = here (q i one) refl
    where
      here : (b : Bool) → q i one ≡ b → (if b then not (asks m) && not (env.rail (of_channel c) i one) else asks m && env.rail (of_channel c) i one) ≡ false
      here true e = absurd (past i (channel_width P.channels c) h (subst (λ (n : ℕ). i < n) (clean.wide (of_var x) ∙ meets.widths) (f.within i one e)))
      here false e = cases (asks m && env.rail (of_channel c) i one)
          (λ (z : (asks m && env.rail (of_channel c) i one) ≡ true). absurd
          (past i (channel_width P.channels c) h (clean.below c i one (snd_true (asks m) (env.rail (of_channel c) i one) z))))
          (λ (z : (asks m && env.rail (of_channel c) i one) ≡ false). z)

  -- a Q-element that isn't running doesn't move inside
  past_absent : {p : Process} {k : Mode} (g : GuardedAt p k) → (k ≡ running → ⊥) → (s : GuardedSpot p) → guarded_stands P.channels s ≡ false
      → guarded_moves env g s ≡ false
  past_absent g_rests out s h = refl
  past_absent g_past out s h = refl
  past_absent (g_back u) out (inner s) h = refl
  past_absent (g_back u) out child h = absurd (cc h)
  past_absent (g_back u) out latch h = absurd (cc h)
  past_absent (g_back u) out next h = absurd (cc h)
  past_absent (g_in u a j) out s h = absurd (out refl)

  mutual
    pub guarded_absent : {p : Process} {m : Mode} (g : GuardedAt p m) → Meets P p → GuardedFits g env → (s : GuardedSpot p)
        → guarded_stands P.channels s ≡ false → guarded_moves env g s ≡ false
    guarded_absent g_rests meets f s h = refl
    guarded_absent (g_in u a i) meets f (inner s) h = absent a meets f s h
    guarded_absent (g_in u a i) meets f child h = absurd (cc h)
    guarded_absent (g_in u a i) meets f latch h = absurd (cc h)
    guarded_absent (g_in u a i) meets f next h = absurd (cc h)
    guarded_absent g_past meets f s h = refl
    guarded_absent (g_back u) meets f (inner s) h = refl
    guarded_absent (g_back u) meets f child h = absurd (cc h)
    guarded_absent (g_back u) meets f latch h = absurd (cc h)
    guarded_absent (g_back u) meets f next h = absurd (cc h)

    absent : {p : Process} {m : Mode} (a : At p m) → Meets P p → Fits a env → (s : Spot p) → stands P.channels s ≡ false → moves env a s ≡ false
    absent rests meets f s h = refl
    absent (at_skip m i) meets f of_skip h = absurd (cc h)
    absent (at_assign {x = x} {e = e} m u i) meets f (of_assign s) h = absent_site env (of_var x) e m u s h
    absent (at_send {c = c} {e = e} m u i) meets f (of_send s) h = absent_site env (of_channel c) e m u s h
    absent (at_receive {c = c} {x = x} m k q i) meets f (of_receive s) h = absent_port c x m k q meets f s h
    absent (at_turn t) meets f (in_members s) h = turn_absent t meets f s h
    absent (at_side m t b i) meets f (of_branch s) h = branches_absent b meets.2 f s h
    absent (at_side {members = members} {ks = ks} m t b i) meets f (joint k) h =
        joint_absent (member_count members) (ends ks) (cell_bit (joint_count (member_count members)) t) k (not_below k (joint_count (member_count members)) h)
    absent (at_body a) meets f (in_body s) h = absent a meets f s h
    absent (at_body a) meets f of_loop h = absurd (cc h)
    absent (at_body a) meets f ask h = absurd (cc h)
    absent (at_choice x) meets f (of_core s) h = absurd (cc h)
    absent (at_choice x) meets f (of_guard s) h = absent_choice_guard env x s h
    absent (at_choice x) meets f (of_choice s) h = choice_absent x meets.2 f s h
    absent (at_turning x) meets f (of_core s) h = absurd (cc h)
    absent (at_turning x) meets f (of_guard s) h = absent_choice_guard env x s h
    absent (at_turning x) meets f (of_choice s) h = choice_absent x meets.2 f s h
    absent (at_turning x) meets f (of_round s) h = absurd (cc h)
    absent (at_closing c) meets f (of_core s) h = absurd (cc h)
    absent (at_closing c) meets f (of_guard s) h = refl
    absent (at_closing c) meets f (of_choice s) h = refl
    absent (at_closing c) meets f (of_round s) h = absurd (cc h)

    choice_absent : {again : Bool} {choices : Choices} {m : Mode} (x : ChoiceAt again choices m) → ChoiceMeets P choices → ChoiceFits x env
        → (s : ChoiceSpot choices) → choice_stands P.channels s ≡ false → choice_inner env x s ≡ false
    choice_absent (control_at c) meets f s h = refl
    choice_absent (inside_at a w) meets f s h = chosen_absent a meets f s h

    chosen_absent : {choices : Choices} {m : Mode} (a : ChosenAt choices m) → ChoiceMeets P choices → ChosenFits a env → (s : ChoiceSpot choices)
        → choice_stands P.channels s ≡ false → chosen_moves env a s ≡ false
    chosen_absent (this_one a) meets f (this_choice s) h = absent a meets.0 f s h
    chosen_absent (this_one a) meets f (other_choice s) h = refl
    chosen_absent (another a) meets f (this_choice s) h = refl
    chosen_absent (another a) meets f (other_choice s) h = chosen_absent a meets.1 f s h

    branches_absent : {members : Processes} {ks : List Mode} (b : BranchesAt members ks) → EachMeets P members → BranchesFit b env → (s : BranchSpot members)
        → branch_stands P.channels s ≡ false → branch_moves env b s ≡ false
    branches_absent no_more meets f s h = refl
    branches_absent (and_at g b) meets f (in_this s) h = guarded_absent g meets.0 f.0 s h
    branches_absent (and_at g b) meets f (in_others s) h = branches_absent b meets.2 f.1 s h

    turn_absent : {members : Processes} {m : Mode} (t : TurnAt members m) → TurnMeets P members → TurnFits t env → (s : TurnSpot members)
        → turn_stands P.channels s ≡ false → turn_moves env t s ≡ false
    turn_absent turn_rests meets f s h = refl
    turn_absent (at_last a) meets f (in_last s) h = absent a meets f s h
    turn_absent (at_member g) meets f (in_member s) h = guarded_absent g meets.0 f s h
    turn_absent (at_member g) meets f (in_later s) h = refl
    turn_absent (at_later g t i) meets f (in_later s) h = turn_absent t meets.1 f s h
    turn_absent (at_later {k = k} {n = n} {m = m} g t i) meets f (in_member s) h = past_absent g (not_running m k n i) s h
