-- Which statement of the program makes the step that is the move of an own node: the spot tells it, and at its place in what is left it stands.
--
-- P: the program; ack: the acknowledges' values; a, g, b, t: where statements are; s: a spot; z: that its move is a step; p, q, more: statements.
use Rattle.std.proofs.Common.{◌≡◌, ℕ, Bool, true, false, List, refl, ap, ◌∙◌}
use Rattle.std.specs.Prelude.{if◌then◌else◌, Some}
use Rattle.width_check.specs.Processes.{Process, skipping, in_turn, side_by_side, choosing, repeating, Processes, no_members, and_member, Choices, no_choices, and_choice}
use Rattle.chp_meaning.specs.Terms.{Term, Terms, finished, active, in_sequence, in_parallel, together, followed, Place, in_first, in_branch, statement_at, branch_at}
use Rattle.circuit_places.specs.Lines.{Line}
use Rattle.circuit_places.specs.Cores.{of_joined, of_ask, of_any, of_latch, of_start, of_answer, of_turn, of_leave}
use Rattle.circuit_places.specs.Circuit.{GuardedSpot, child, latch, next, inner, Spot, of_skip, of_assign, of_send, of_receive, in_members, of_branch, joint, of_loop, ask, in_body, of_core, of_guard, of_choice, of_round, ChoiceSpot, this_choice, other_choice, BranchSpot, in_this, in_others, TurnSpot, in_last, in_member, in_later}
use Rattle.circuit_places.proofs.CoreControl.{uncalled, called, evaluating, latched, leaving}
use Rattle.circuit_places.proofs.Left.{again, guarded_left, left, chosen_left, branches_left, turn_left, left_done, inside_stands}
use Rattle.circuit_places.proofs.Places.{Mode, idle, running, answered, returning, GuardedAt, g_rests, g_in, g_past, g_back, At, rests, at_skip, at_assign, at_send, at_receive, at_turn, at_side, at_body, at_choice, at_turning, at_closing, control_at, inside_at, ChosenAt, this_one, another, BranchesAt, no_more, and_at, TurnAt, turn_rests, at_last, at_member, at_later}
use Rattle.circuit_places.proofs.Stepping.{steps, guarded_steps, chosen_steps, branch_steps, turn_steps}
use Rattle.circuit_places.proofs.StepPlaces.{guarded_place, place_of, choice_place, branch_index, branch_place, turn_place}
use Rattle.circuit_pace.proofs.Never.{never}
use Rattle.circuit_sums.proofs.OwnStepped.{none}

-- of a spot
abbrev mutual
  pub guarded_statement : (p : Process) → GuardedSpot p → Process
  guarded_statement p (inner s) = statement p s
  guarded_statement p s = p

  pub statement : (p : Process) → Spot p → Process
  statement (in_turn ms) (in_members s) = turn_statement ms s
  statement (side_by_side ms) (of_branch s) = branch_statement ms s
  statement (repeating p) (in_body s) = statement p s
  statement (choosing again cs) (of_choice s) = choice_statement cs s
  statement p s = p

  pub choice_statement : (cs : Choices) → ChoiceSpot cs → Process
  choice_statement no_choices s = skipping
  choice_statement (and_choice g p more) (this_choice s) = statement p s
  choice_statement (and_choice g p more) (other_choice s) = choice_statement more s

  pub branch_statement : (ms : Processes) → BranchSpot ms → Process
  branch_statement no_members s = skipping
  branch_statement (and_member p more) (in_this s) = guarded_statement p s
  branch_statement (and_member p more) (in_others s) = branch_statement more s

  pub turn_statement : (ms : Processes) → TurnSpot ms → Process
  turn_statement no_members s = skipping
  turn_statement (and_member p no_members) (in_last s) = statement p s
  turn_statement (and_member p (and_member q more)) (in_member s) = guarded_statement p s
  turn_statement (and_member p (and_member q more)) (in_later s) = turn_statement (and_member q more) s

no_step : {A : Type 0} (b : Bool) → b ≡ false → b ≡ true → A
no_step b e h = absurd (cc (e, h))

-- what stands in a part stands in the whole
then_stands : (more : Processes) (x : Term) (at : Place) (s : Process) → statement_at x at ≡ Some s → statement_at (followed x more) (in_first at) ≡ Some s
then_stands more finished at s e = absurd (cc e)
then_stands more (active p) at s e = e
then_stands more (in_sequence x others) at s e = e
then_stands more (in_parallel xs) at s e = e

together_stands : (ts : Terms) (k : ℕ) (at : Place) (s : Process) → branch_at ts k at ≡ Some s → statement_at (together ts) (in_branch k at) ≡ Some s
together_stands ts k at s e = ap (λ b. statement_at (if b then finished else in_parallel ts) (in_branch k at)) (inside_stands ts k at s e) ∙ e

idle_apart : idle ≡ running → ⊥
idle_apart e = cc e

answered_apart : answered ≡ running → ⊥
answered_apart e = cc e

returning_apart : returning ≡ running → ⊥
returning_apart e = cc e

module _ (ack : Line → Bool) where
  mutual
    pub guarded_stands : {p : Process} {m : Mode} (g : GuardedAt p m) (s : GuardedSpot p) → guarded_steps g s ≡ true
        → statement_at (guarded_left ack g) (guarded_place s) ≡ Some (guarded_statement p s)
    guarded_stands (g_in {m = running} false a h) (inner s) z = stands a s z
    guarded_stands (g_in {m = running} true a h) (inner s) z = never h
    guarded_stands (g_in {m = idle} u a h) (inner s) z = no_step _ (none a idle_apart s) z
    guarded_stands (g_in {m = answered} u a h) (inner s) z = no_step _ (none a answered_apart s) z
    guarded_stands (g_in {m = returning} u a h) (inner s) z = no_step _ (none a returning_apart s) z
    guarded_stands (g_in u a h) child z = never z
    guarded_stands (g_in u a h) latch z = never z
    guarded_stands (g_in u a h) next z = never z
    guarded_stands g_rests s z = never z
    guarded_stands g_past s z = never z
    guarded_stands (g_back u) s z = never z

    stands : {p : Process} {m : Mode} (a : At p m) (s : Spot p) → steps a s ≡ true → statement_at (left ack a) (place_of s) ≡ Some (statement p s)
    stands rests s z = never z
    stands (at_skip running h) of_skip z = refl
    stands (at_skip idle h) of_skip z = absurd (cc h)
    stands (at_skip answered h) of_skip z = never z
    stands (at_skip returning h) of_skip z = never z
    stands (at_assign m u h) (of_assign s) z = never z
    stands (at_send m u h) (of_send s) z = never z
    stands (at_receive m k q h) (of_receive s) z = never z
    stands (at_turn t) (in_members s) z = turn_stands t s z
    stands (at_side m t b h) (joint k) z = never z
    stands (at_side m t b h) (of_branch s) z = together_stands (branches_left ack b) (branch_index s) (branch_place s) _ (branch_stands b s z)
    stands (at_body {p = p} {m = idle} a) ask z =
        ap (λ t. statement_at (followed t (again p)) (place_of (ask {p = p}))) (left_done ack a idle_apart)
    stands (at_body {p = p} {m = returning} a) ask z =
        ap (λ t. statement_at (followed t (again p)) (place_of (ask {p = p}))) (left_done ack a returning_apart)
    stands (at_body {m = running} a) ask z = never z
    stands (at_body {m = answered} a) ask z = never z
    stands (at_body {p = p} a) (in_body s) z = then_stands (again p) (left ack a) (place_of s) _ (stands a s z)
    stands (at_body a) of_loop z = never z
    stands (at_choice (control_at (evaluating g))) (of_core (of_latch i)) z = refl
    stands (at_choice (control_at (evaluating g))) (of_core of_joined) z = never z
    stands (at_choice (control_at (evaluating g))) (of_core of_ask) z = never z
    stands (at_choice (control_at (evaluating g))) (of_core of_any) z = never z
    stands (at_choice (control_at (evaluating g))) (of_core (of_start i)) z = never z
    stands (at_choice (control_at uncalled)) (of_core s) z = never z
    stands (at_choice (control_at called)) (of_core s) z = never z
    stands (at_choice (control_at (latched l i g h))) (of_core s) z = never z
    stands (at_choice (control_at (leaving y l g h))) (of_core s) z = never z
    stands (at_choice (inside_at a w)) (of_core s) z = never z
    stands (at_choice x) (of_guard s) z = never z
    stands (at_choice (control_at c)) (of_choice s) z = never z
    stands (at_choice (inside_at a w)) (of_choice s) z = chosen_stands a s z
    stands (at_turning (control_at (evaluating g))) (of_core (of_latch i)) z = refl
    stands (at_turning (control_at (evaluating g))) (of_core of_joined) z = never z
    stands (at_turning (control_at (evaluating g))) (of_core of_ask) z = never z
    stands (at_turning (control_at (evaluating g))) (of_core of_any) z = never z
    stands (at_turning (control_at (evaluating g))) (of_core (of_start i)) z = never z
    stands (at_turning (control_at uncalled)) (of_core s) z = never z
    stands (at_turning (control_at called)) (of_core s) z = never z
    stands (at_turning (control_at (latched l i g h))) (of_core s) z = never z
    stands (at_turning (control_at (leaving y l g h))) (of_core s) z = never z
    stands (at_turning (inside_at a w)) (of_core s) z = never z
    stands (at_turning x) (of_guard s) z = never z
    stands (at_turning (control_at c)) (of_choice s) z = never z
    stands (at_turning {choices = cs} (inside_at a w)) (of_choice s) z =
        then_stands (and_member (choosing true cs) no_members) (chosen_left ack a) (choice_place s) _ (chosen_stands a s z)
    stands (at_turning (control_at (evaluating g))) (of_round of_leave) z = refl
    stands (at_turning (control_at (evaluating g))) (of_round of_answer) z = never z
    stands (at_turning (control_at (evaluating g))) (of_round of_turn) z = never z
    stands (at_turning (control_at uncalled)) (of_round s) z = never z
    stands (at_turning (control_at called)) (of_round s) z = never z
    stands (at_turning (control_at (latched l i g h))) (of_round s) z = never z
    stands (at_turning (control_at (leaving y l g h))) (of_round s) z = never z
    stands (at_turning (inside_at a w)) (of_round s) z = never z
    stands (at_closing c) s z = never z

    chosen_stands : {cs : Choices} {k : Mode} (a : ChosenAt cs k) (s : ChoiceSpot cs) → chosen_steps a s ≡ true
        → statement_at (chosen_left ack a) (choice_place s) ≡ Some (choice_statement cs s)
    chosen_stands (this_one a) (this_choice s) z = stands a s z
    chosen_stands (this_one a) (other_choice s) z = never z
    chosen_stands (another a) (other_choice s) z = chosen_stands a s z
    chosen_stands (another a) (this_choice s) z = never z

    branch_stands : {ms : Processes} {ks : List Mode} (b : BranchesAt ms ks) (s : BranchSpot ms) → branch_steps b s ≡ true
        → branch_at (branches_left ack b) (branch_index s) (branch_place s) ≡ Some (branch_statement ms s)
    branch_stands no_more s z = never z
    branch_stands (and_at g b) (in_this s) z = guarded_stands g s z
    branch_stands (and_at g b) (in_others s) z = branch_stands b s z

    turn_stands : {ms : Processes} {m : Mode} (t : TurnAt ms m) (s : TurnSpot ms) → turn_steps t s ≡ true
        → statement_at (turn_left ack t) (turn_place s) ≡ Some (turn_statement ms s)
    turn_stands turn_rests s z = never z
    turn_stands (at_last a) (in_last s) z = stands a s z
    turn_stands (at_member {q = q} {more = more} g) (in_member s) z =
        then_stands (and_member q more) (guarded_left ack g) (guarded_place s) _ (guarded_stands g s z)
    turn_stands (at_member g) (in_later s) z = never z
    turn_stands (at_later g t h) (in_member s) z = never z
    turn_stands (at_later g t h) (in_later s) z = turn_stands t s z
