-- Whether an own move is a silent step is told by its node and by the node's value alone: so it stays one whatever else moves.
use Rattle.std.proofs.Common.{◌≡◌, ℕ, Bool, true, false, List, refl, ap}
use Rattle.std.specs.Prelude.{not}
use Rattle.width_check.specs.Processes.{Process, skipping, assigning, sending, receiving, in_turn, side_by_side, choosing, repeating, Processes, no_members, and_member, Choices, no_choices, and_choice}
use Rattle.circuit_places.specs.Lines.{Seen}
use Rattle.circuit_places.specs.Heads.{Index, top, under, Bits, bit_of, turned_bit}
use Rattle.circuit_places.specs.Cores.{of_joined, of_ask, of_any, of_latch, of_start, of_answer, of_turn, of_leave}
use Rattle.circuit_places.specs.Circuit.{QElementCells, Cells, ChoiceCells, BranchCells, TurnCells, GuardedSpot, Spot, TurnSpot, BranchSpot, ChoiceSpot, child, latch, next, inner, of_skip, of_assign, of_send, of_receive, in_members, of_branch, joint, in_this, in_others, of_loop, ask, in_body, in_last, in_member, in_later, this_choice, other_choice, of_core, of_guard, of_choice, of_round, flipped, turned_guarded, turned_branches, turned_turn, turned_choice}
use Rattle.circuit_places.proofs.RailLemmas.{fst_true}
use Rattle.circuit_places.proofs.HeadFacts.{bit_none}
use Rattle.circuit_places.proofs.Places.{Mode, running, asks, acks, GuardedAt, At, TurnAt, BranchesAt, g_rests, g_in, g_past, g_back, rests, at_skip, at_assign, at_send, at_receive, at_turn, at_side, at_body, no_more, and_at, turn_rests, at_last, at_member, at_later, at_choice, at_turning, at_closing, control_at, inside_at, ChosenAt, this_one, another, not_running, guarded_cells, cells, chosen_cells, branch_cells, turn_cells, guarded_moves, moves, chosen_moves, branch_moves, turn_moves}
use Rattle.circuit_places.proofs.CoreControl.{uncalled, called, evaluating, latched, leaving, works, worked, reported, letting, backs, closing_leave, closing_turn}
use Rattle.circuit_places.proofs.Stepping.{steps, guarded_steps, chosen_steps, branch_steps, turn_steps}

-- the nodes whose rise is a silent step: the answer of a skip, a loop's request of its body, a latch
abbrev mutual
  pub guarded_rises : {p : Process} → GuardedSpot p → Bool
  guarded_rises (inner s) = rises s
  guarded_rises _ = false

  pub rises : {p : Process} → Spot p → Bool
  rises of_skip = true
  rises (in_members s) = turn_rises s
  rises (of_branch s) = branch_rises s
  rises ask = true
  rises (in_body s) = rises s
  rises (of_core (of_latch i)) = true
  rises (of_choice s) = choice_rises s
  rises (of_round of_leave) = true
  rises _ = false

  pub choice_rises : {choices : Choices} → ChoiceSpot choices → Bool
  choice_rises (this_choice s) = rises s
  choice_rises (other_choice s) = choice_rises s

  pub branch_rises : {members : Processes} → BranchSpot members → Bool
  branch_rises (in_this s) = guarded_rises s
  branch_rises (in_others s) = branch_rises s

  pub turn_rises : {members : Processes} → TurnSpot members → Bool
  turn_rises (in_last s) = rises s
  turn_rises (in_member s) = guarded_rises s
  turn_rises (in_later s) = turn_rises s

-- their values
abbrev mutual
  pub guarded_value : (p : Process) → QElementCells (Cells p) → GuardedSpot p → Bool
  guarded_value p x (inner s) = value_at p x.inner s
  guarded_value p x _ = true

  pub value_at : (p : Process) → Cells p → Spot p → Bool
  value_at skipping x of_skip = x
  value_at (in_turn members) x (in_members s) = turn_value members x s
  value_at (side_by_side members) x (of_branch s) = branch_value members x.branches s
  value_at (repeating p) x ask = x.ask
  value_at (repeating p) x (in_body s) = value_at p x.inner s
  value_at (choosing false choices) x (of_core (of_latch i)) = bit_of i x.latched
  value_at (choosing false choices) x (of_choice s) = choice_value choices x.branches s
  value_at (choosing true choices) x (of_core (of_latch i)) = bit_of i x.core.latched
  value_at (choosing true choices) x (of_choice s) = choice_value choices x.core.branches s
  value_at (choosing true choices) x (of_round of_leave) = x.leave
  value_at _ _ _ = true

  pub choice_value : (choices : Choices) → ChoiceCells choices → ChoiceSpot choices → Bool
  choice_value no_choices x s = true
  choice_value (and_choice g p more) x (this_choice s) = value_at p x.0 s
  choice_value (and_choice g p more) x (other_choice s) = choice_value more x.1 s

  pub branch_value : (members : Processes) → BranchCells members → BranchSpot members → Bool
  branch_value no_members x s = true
  branch_value (and_member p more) x (in_this s) = guarded_value p x.0 s
  branch_value (and_member p more) x (in_others s) = branch_value more x.1 s

  pub turn_value : (members : Processes) → TurnCells members → TurnSpot members → Bool
  turn_value no_members x s = true
  turn_value (and_member p no_members) x (in_last s) = value_at p x s
  turn_value (and_member p (and_member q more)) x (in_member s) = guarded_value p x.member s
  turn_value (and_member p (and_member q more)) x (in_later s) = turn_value (and_member q more) x.later s

falls : {A : Type 0} → false ≡ true → A
falls e = absurd (cc e)

-- behind a member that isn't under way nothing of it moves
behind_still : {p : Process} {m : Mode} (env : Seen) (g : GuardedAt p m) (s : GuardedSpot p) → (m ≡ running → ⊥) → guarded_moves env g s ≡ true
    → guarded_rises s ≡ true → ⊥
behind_still env (g_in u a h) s ne e k = ne refl
behind_still env g_rests s ne e k = cc e
behind_still env g_past s ne e k = cc e
behind_still env (g_back u) (inner s) ne e k = cc e
behind_still env (g_back u) child ne e k = cc k
behind_still env (g_back u) latch ne e k = cc k
behind_still env (g_back u) next ne e k = cc k

-- a move of such a node whose value is low is a step
mutual
  pub guarded_is_step : {p : Process} {m : Mode} (env : Seen) (g : GuardedAt p m) (s : GuardedSpot p) → guarded_moves env g s ≡ true → guarded_rises s ≡ true
      → guarded_value p (guarded_cells g) s ≡ false → guarded_steps g s ≡ true
  guarded_is_step env (g_in u a h) (inner s) e k v = is_step env a s e k v
  guarded_is_step env g_rests (inner s) e k v = falls e
  guarded_is_step env g_past (inner s) e k v = falls e
  guarded_is_step env (g_back u) (inner s) e k v = falls e
  guarded_is_step env g child e k v = falls k
  guarded_is_step env g latch e k v = falls k
  guarded_is_step env g next e k v = falls k

  pub is_step : {p : Process} {m : Mode} (env : Seen) (a : At p m) (s : Spot p) → moves env a s ≡ true → rises s ≡ true → value_at p (cells a) s ≡ false
      → steps a s ≡ true
  is_step env rests s e k v = falls e
  is_step env (at_skip m h) of_skip e k v = ap not v
  is_step env (at_assign m u h) (of_assign s) e k v = falls k
  is_step env (at_send m u h) (of_send s) e k v = falls k
  is_step env (at_receive m l q h) (of_receive s) e k v = falls k
  is_step env (at_turn t) (in_members s) e k v = turn_is_step env t s e k v
  is_step env (at_side m t b h) (of_branch s) e k v = branch_is_step env b s e k v
  is_step env (at_side m t b h) (joint j) e k v = falls k
  is_step env (at_body a) ask e k v = ap not v
  is_step env (at_body a) (in_body s) e k v = is_step env a s e k v
  is_step env (at_body a) of_loop e k v = falls k
  is_step env (at_choice x) (of_core of_joined) e k v = falls k
  is_step env (at_choice x) (of_core of_ask) e k v = falls k
  is_step env (at_choice x) (of_core of_any) e k v = falls k
  is_step env (at_choice x) (of_core (of_start j)) e k v = falls k
  is_step env (at_choice (control_at uncalled)) (of_core (of_latch i)) e k v = falls e
  is_step env (at_choice (control_at called)) (of_core (of_latch i)) e k v = falls e
  is_step env (at_choice (control_at (evaluating g))) (of_core (of_latch i)) e k v = refl
  is_step env (at_choice (control_at (latched l j g h))) (of_core (of_latch i)) e k v = falls e
  is_step env (at_choice (control_at (leaving y l g h))) (of_core (of_latch i)) e k v = falls e
  is_step env (at_choice (inside_at a works)) (of_core (of_latch i)) e k v = falls e
  is_step env (at_choice (inside_at a worked)) (of_core (of_latch i)) e k v = falls e
  is_step env (at_choice (inside_at a reported)) (of_core (of_latch i)) e k v = falls e
  is_step env (at_choice (inside_at a letting)) (of_core (of_latch i)) e k v = absurd (cc (e, v))
  is_step env (at_choice (inside_at a (backs any h))) (of_core (of_latch i)) e k v = falls e
  is_step env (at_choice x) (of_guard s) e k v = falls k
  is_step env (at_choice (control_at c)) (of_choice s) e k v = falls e
  is_step env (at_choice (inside_at a w)) (of_choice s) e k v = chosen_is_step env a s e k v
  is_step env (at_turning x) (of_core of_joined) e k v = falls k
  is_step env (at_turning x) (of_core of_ask) e k v = falls k
  is_step env (at_turning x) (of_core of_any) e k v = falls k
  is_step env (at_turning x) (of_core (of_start j)) e k v = falls k
  is_step env (at_turning (control_at uncalled)) (of_core (of_latch i)) e k v = falls e
  is_step env (at_turning (control_at called)) (of_core (of_latch i)) e k v = falls e
  is_step env (at_turning (control_at (evaluating g))) (of_core (of_latch i)) e k v = refl
  is_step env (at_turning (control_at (latched l j g h))) (of_core (of_latch i)) e k v = falls e
  is_step env (at_turning (control_at (leaving y l g h))) (of_core (of_latch i)) e k v = falls e
  is_step env (at_turning (inside_at a works)) (of_core (of_latch i)) e k v = falls e
  is_step env (at_turning (inside_at a worked)) (of_core (of_latch i)) e k v = falls e
  is_step env (at_turning (inside_at a reported)) (of_core (of_latch i)) e k v = falls e
  is_step env (at_turning (inside_at a letting)) (of_core (of_latch i)) e k v = absurd (cc (e, v))
  is_step env (at_turning (inside_at a (backs any h))) (of_core (of_latch i)) e k v = falls e
  is_step env (at_turning x) (of_guard s) e k v = falls k
  is_step env (at_turning (control_at c)) (of_choice s) e k v = falls e
  is_step env (at_turning (inside_at a w)) (of_choice s) e k v = chosen_is_step env a s e k v
  is_step env (at_turning x) (of_round of_answer) e k v = falls k
  is_step env (at_turning x) (of_round of_turn) e k v = falls k
  is_step env (at_turning (control_at uncalled)) (of_round of_leave) e k v = falls e
  is_step env (at_turning (control_at called)) (of_round of_leave) e k v = falls e
  is_step env (at_turning (control_at (evaluating g))) (of_round of_leave) e k v = refl
  is_step env (at_turning (control_at (latched l j g h))) (of_round of_leave) e k v = falls e
  is_step env (at_turning (control_at (leaving y l g h))) (of_round of_leave) e k v = falls e
  is_step env (at_turning (inside_at a works)) (of_round of_leave) e k v = falls e
  is_step env (at_turning (inside_at a worked)) (of_round of_leave) e k v = falls e
  is_step env (at_turning (inside_at a reported)) (of_round of_leave) e k v = falls e
  is_step env (at_turning (inside_at a letting)) (of_round of_leave) e k v = falls e
  is_step env (at_turning (inside_at a (backs any h))) (of_round of_leave) e k v = falls e
  is_step env (at_closing c) (of_core of_joined) e k v = falls k
  is_step env (at_closing c) (of_core of_ask) e k v = falls k
  is_step env (at_closing c) (of_core of_any) e k v = falls k
  is_step env (at_closing c) (of_core (of_start j)) e k v = falls k
  is_step env (at_closing c) (of_core (of_latch i)) e k v = falls e
  is_step env (at_closing c) (of_guard s) e k v = falls k
  is_step env (at_closing c) (of_choice s) e k v = falls e
  is_step env (at_closing c) (of_round of_answer) e k v = falls k
  is_step env (at_closing c) (of_round of_turn) e k v = falls k
  is_step env (at_closing c) (of_round of_leave) e k v = absurd (cc (fst_true (closing_leave c) (not (closing_turn c)) e, v))

  chosen_is_step : {choices : Choices} {m : Mode} (env : Seen) (a : ChosenAt choices m) (s : ChoiceSpot choices) → chosen_moves env a s ≡ true
      → choice_rises s ≡ true → choice_value choices (chosen_cells a) s ≡ false → chosen_steps a s ≡ true
  chosen_is_step env (this_one a) (this_choice s) e k v = is_step env a s e k v
  chosen_is_step env (this_one a) (other_choice s) e k v = falls e
  chosen_is_step env (another a) (this_choice s) e k v = falls e
  chosen_is_step env (another a) (other_choice s) e k v = chosen_is_step env a s e k v

  turn_is_step : {members : Processes} {m : Mode} (env : Seen) (t : TurnAt members m) (s : TurnSpot members) → turn_moves env t s ≡ true
      → turn_rises s ≡ true → turn_value members (turn_cells t) s ≡ false → turn_steps t s ≡ true
  turn_is_step env turn_rests s e k v = falls e
  turn_is_step env (at_last a) (in_last s) e k v = is_step env a s e k v
  turn_is_step env (at_member g) (in_member s) e k v = guarded_is_step env g s e k v
  turn_is_step env (at_member g) (in_later s) e k v = falls e
  turn_is_step env (at_later {k = q} {n = n} {m = m} g t h) (in_member s) e k v = absurd (behind_still env g s (not_running m q n h) e k)
  turn_is_step env (at_later g t h) (in_later s) e k v = turn_is_step env t s e k v

  branch_is_step : {members : Processes} {ks : List Mode} (env : Seen) (b : BranchesAt members ks) (s : BranchSpot members) → branch_moves env b s ≡ true
      → branch_rises s ≡ true → branch_value members (branch_cells b) s ≡ false → branch_steps b s ≡ true
  branch_is_step env no_more s e k v = falls e
  branch_is_step env (and_at g b) (in_this s) e k v = guarded_is_step env g s e k v
  branch_is_step env (and_at g b) (in_others s) e k v = branch_is_step env b s e k v

-- and each silent step is such a move
low_by : (b : Bool) → not b ≡ true → b ≡ false
low_by true e = absurd (cc e)
low_by false e = refl

mutual
  pub guarded_was_low : {p : Process} {m : Mode} (g : GuardedAt p m) (s : GuardedSpot p) → guarded_steps g s ≡ true
      → (guarded_rises s ≡ true) × (guarded_value p (guarded_cells g) s ≡ false)
  guarded_was_low (g_in u a h) (inner s) z = was_low a s z
  guarded_was_low (g_in u a h) child z = falls z
  guarded_was_low (g_in u a h) latch z = falls z
  guarded_was_low (g_in u a h) next z = falls z
  guarded_was_low g_rests s z = falls z
  guarded_was_low g_past s z = falls z
  guarded_was_low (g_back u) s z = falls z

  pub was_low : {p : Process} {m : Mode} (a : At p m) (s : Spot p) → steps a s ≡ true → (rises s ≡ true) × (value_at p (cells a) s ≡ false)
  was_low rests s z = falls z
  was_low (at_skip m h) of_skip z = (refl, low_by (acks m) z)
  was_low (at_assign m u h) (of_assign s) z = falls z
  was_low (at_send m u h) (of_send s) z = falls z
  was_low (at_receive m l q h) (of_receive s) z = falls z
  was_low (at_turn t) (in_members s) z = turn_was_low t s z
  was_low (at_side m t b h) (of_branch s) z = branch_was_low b s z
  was_low (at_side m t b h) (joint j) z = falls z
  was_low (at_body {m = m} a) ask z = (refl, low_by (asks m) z)
  was_low (at_body a) (in_body s) z = was_low a s z
  was_low (at_body a) of_loop z = falls z
  was_low (at_choice (control_at uncalled)) (of_core s) z = falls z
  was_low (at_choice (control_at called)) (of_core s) z = falls z
  was_low (at_choice (control_at (evaluating g))) (of_core (of_latch i)) z = (refl, bit_none i)
  was_low (at_choice (control_at (evaluating g))) (of_core of_joined) z = falls z
  was_low (at_choice (control_at (evaluating g))) (of_core of_ask) z = falls z
  was_low (at_choice (control_at (evaluating g))) (of_core of_any) z = falls z
  was_low (at_choice (control_at (evaluating g))) (of_core (of_start j)) z = falls z
  was_low (at_choice (control_at (latched l j g h))) (of_core s) z = falls z
  was_low (at_choice (control_at (leaving y l g h))) (of_core s) z = falls z
  was_low (at_choice (inside_at a w)) (of_core s) z = falls z
  was_low (at_choice x) (of_guard s) z = falls z
  was_low (at_choice (control_at c)) (of_choice s) z = falls z
  was_low (at_choice (inside_at a w)) (of_choice s) z = chosen_was_low a s z
  was_low (at_turning (control_at uncalled)) (of_core s) z = falls z
  was_low (at_turning (control_at called)) (of_core s) z = falls z
  was_low (at_turning (control_at (evaluating g))) (of_core (of_latch i)) z = (refl, bit_none i)
  was_low (at_turning (control_at (evaluating g))) (of_core of_joined) z = falls z
  was_low (at_turning (control_at (evaluating g))) (of_core of_ask) z = falls z
  was_low (at_turning (control_at (evaluating g))) (of_core of_any) z = falls z
  was_low (at_turning (control_at (evaluating g))) (of_core (of_start j)) z = falls z
  was_low (at_turning (control_at (latched l j g h))) (of_core s) z = falls z
  was_low (at_turning (control_at (leaving y l g h))) (of_core s) z = falls z
  was_low (at_turning (inside_at a w)) (of_core s) z = falls z
  was_low (at_turning x) (of_guard s) z = falls z
  was_low (at_turning (control_at c)) (of_choice s) z = falls z
  was_low (at_turning (inside_at a w)) (of_choice s) z = chosen_was_low a s z
  was_low (at_turning (control_at uncalled)) (of_round t) z = falls z
  was_low (at_turning (control_at called)) (of_round t) z = falls z
  was_low (at_turning (control_at (evaluating g))) (of_round of_leave) z = (refl, refl)
  was_low (at_turning (control_at (evaluating g))) (of_round of_answer) z = falls z
  was_low (at_turning (control_at (evaluating g))) (of_round of_turn) z = falls z
  was_low (at_turning (control_at (latched l j g h))) (of_round t) z = falls z
  was_low (at_turning (control_at (leaving y l g h))) (of_round t) z = falls z
  was_low (at_turning (inside_at a w)) (of_round t) z = falls z
  was_low (at_closing c) (of_core s) z = falls z
  was_low (at_closing c) (of_guard s) z = falls z
  was_low (at_closing c) (of_choice s) z = falls z
  was_low (at_closing c) (of_round s) z = falls z

  chosen_was_low : {choices : Choices} {m : Mode} (a : ChosenAt choices m) (s : ChoiceSpot choices) → chosen_steps a s ≡ true
      → (choice_rises s ≡ true) × (choice_value choices (chosen_cells a) s ≡ false)
  chosen_was_low (this_one a) (this_choice s) z = was_low a s z
  chosen_was_low (this_one a) (other_choice s) z = falls z
  chosen_was_low (another a) (this_choice s) z = falls z
  chosen_was_low (another a) (other_choice s) z = chosen_was_low a s z

  branch_was_low : {members : Processes} {ks : List Mode} (b : BranchesAt members ks) (s : BranchSpot members) → branch_steps b s ≡ true
      → (branch_rises s ≡ true) × (branch_value members (branch_cells b) s ≡ false)
  branch_was_low no_more s z = falls z
  branch_was_low (and_at g b) (in_this s) z = guarded_was_low g s z
  branch_was_low (and_at g b) (in_others s) z = branch_was_low b s z

  turn_was_low : {members : Processes} {m : Mode} (t : TurnAt members m) (s : TurnSpot members) → turn_steps t s ≡ true
      → (turn_rises s ≡ true) × (turn_value members (turn_cells t) s ≡ false)
  turn_was_low turn_rests s z = falls z
  turn_was_low (at_last a) (in_last s) z = was_low a s z
  turn_was_low (at_member g) (in_member s) z = guarded_was_low g s z
  turn_was_low (at_member g) (in_later s) z = falls z
  turn_was_low (at_later g t h) (in_member s) z = falls z
  turn_was_low (at_later g t h) (in_later s) z = turn_was_low t s z

-- another move leaves the value
other_bit : {n : ℕ} (i j : Index n) (x : Bits n) → (i ≡ j → ⊥) → bit_of i (turned_bit j x) ≡ bit_of i x
other_bit top top x ne = absurd (ne refl)
other_bit top (under j) x ne = refl
other_bit (under i) top x ne = refl
other_bit (under i) (under j) x ne = other_bit i j x.1 (λ e. ne (ap (λ z. under z) e))

mutual
  pub guarded_keeps_value : (p : Process) (x : QElementCells (Cells p)) (s q : GuardedSpot p) → (s ≡ q → ⊥) → guarded_rises s ≡ true
      → guarded_value p (turned_guarded p x q) s ≡ guarded_value p x s
  guarded_keeps_value p x (inner s) (inner q) ne k = keeps_value p x.inner s q (λ e. ne (ap (λ z. inner z) e)) k
  guarded_keeps_value p x (inner s) child ne k = refl
  guarded_keeps_value p x (inner s) latch ne k = refl
  guarded_keeps_value p x (inner s) next ne k = refl
  guarded_keeps_value p x child q ne k = falls k
  guarded_keeps_value p x latch q ne k = falls k
  guarded_keeps_value p x next q ne k = falls k

  pub keeps_value : (p : Process) (x : Cells p) (s q : Spot p) → (s ≡ q → ⊥) → rises s ≡ true → value_at p (flipped p x q) s ≡ value_at p x s
  keeps_value skipping x of_skip of_skip ne k = absurd (ne refl)
  keeps_value (assigning y at e) x (of_assign s) q ne k = falls k
  keeps_value (sending c at e) x (of_send s) q ne k = falls k
  keeps_value (receiving c at y to) x (of_receive s) q ne k = falls k
  keeps_value (in_turn members) x (in_members s) (in_members q) ne k = turn_keeps_value members x s q (λ e. ne (ap (λ z. in_members z) e)) k
  keeps_value (side_by_side members) x (of_branch s) (of_branch q) ne k =
      branch_keeps_value members x.branches s q (λ e. ne (ap (λ z. of_branch z) e)) k
  keeps_value (side_by_side members) x (of_branch s) (joint j) ne k = refl
  keeps_value (side_by_side members) x (joint j) q ne k = falls k
  keeps_value (repeating p) x ask ask ne k = absurd (ne refl)
  keeps_value (repeating p) x ask of_loop ne k = refl
  keeps_value (repeating p) x ask (in_body q) ne k = refl
  keeps_value (repeating p) x (in_body s) (in_body q) ne k = keeps_value p x.inner s q (λ e. ne (ap (λ z. in_body z) e)) k
  keeps_value (repeating p) x (in_body s) ask ne k = refl
  keeps_value (repeating p) x (in_body s) of_loop ne k = refl
  keeps_value (repeating p) x of_loop q ne k = falls k
  keeps_value (choosing false choices) x (of_core (of_latch i)) (of_core (of_latch j)) ne k = other_bit i j x.latched
      (λ e. ne (ap (λ z. of_core (of_latch z)) e))
  keeps_value (choosing false choices) x (of_core (of_latch i)) (of_core of_joined) ne k = refl
  keeps_value (choosing false choices) x (of_core (of_latch i)) (of_core of_ask) ne k = refl
  keeps_value (choosing false choices) x (of_core (of_latch i)) (of_core of_any) ne k = refl
  keeps_value (choosing false choices) x (of_core (of_latch i)) (of_core (of_start j)) ne k = refl
  keeps_value (choosing false choices) x (of_core (of_latch i)) (of_guard q) ne k = refl
  keeps_value (choosing false choices) x (of_core (of_latch i)) (of_choice q) ne k = refl
  keeps_value (choosing false choices) x (of_core of_joined) q ne k = falls k
  keeps_value (choosing false choices) x (of_core of_ask) q ne k = falls k
  keeps_value (choosing false choices) x (of_core of_any) q ne k = falls k
  keeps_value (choosing false choices) x (of_core (of_start j)) q ne k = falls k
  keeps_value (choosing false choices) x (of_guard s) q ne k = falls k
  keeps_value (choosing false choices) x (of_choice s) (of_choice q) ne k =
      choice_keeps_value choices x.branches s q (λ e. ne (ap (λ z. of_choice z) e)) k
  keeps_value (choosing false choices) x (of_choice s) (of_core of_joined) ne k = refl
  keeps_value (choosing false choices) x (of_choice s) (of_core of_ask) ne k = refl
  keeps_value (choosing false choices) x (of_choice s) (of_core of_any) ne k = refl
  keeps_value (choosing false choices) x (of_choice s) (of_core (of_latch j)) ne k = refl
  keeps_value (choosing false choices) x (of_choice s) (of_core (of_start j)) ne k = refl
  keeps_value (choosing false choices) x (of_choice s) (of_guard q) ne k = refl
  keeps_value (choosing true choices) x (of_core (of_latch i)) (of_core (of_latch j)) ne k =
      other_bit i j x.core.latched (λ e. ne (ap (λ z. of_core (of_latch z)) e))
  keeps_value (choosing true choices) x (of_core (of_latch i)) (of_core of_joined) ne k = refl
  keeps_value (choosing true choices) x (of_core (of_latch i)) (of_core of_ask) ne k = refl
  keeps_value (choosing true choices) x (of_core (of_latch i)) (of_core of_any) ne k = refl
  keeps_value (choosing true choices) x (of_core (of_latch i)) (of_core (of_start j)) ne k = refl
  keeps_value (choosing true choices) x (of_core (of_latch i)) (of_guard q) ne k = refl
  keeps_value (choosing true choices) x (of_core (of_latch i)) (of_choice q) ne k = refl
  keeps_value (choosing true choices) x (of_core (of_latch i)) (of_round of_answer) ne k = refl
  keeps_value (choosing true choices) x (of_core (of_latch i)) (of_round of_turn) ne k = refl
  keeps_value (choosing true choices) x (of_core (of_latch i)) (of_round of_leave) ne k = refl
  keeps_value (choosing true choices) x (of_core of_joined) q ne k = falls k
  keeps_value (choosing true choices) x (of_core of_ask) q ne k = falls k
  keeps_value (choosing true choices) x (of_core of_any) q ne k = falls k
  keeps_value (choosing true choices) x (of_core (of_start j)) q ne k = falls k
  keeps_value (choosing true choices) x (of_guard s) q ne k = falls k
  keeps_value (choosing true choices) x (of_choice s) (of_choice q) ne k =
      choice_keeps_value choices x.core.branches s q (λ e. ne (ap (λ z. of_choice z) e)) k
  keeps_value (choosing true choices) x (of_choice s) (of_core of_joined) ne k = refl
  keeps_value (choosing true choices) x (of_choice s) (of_core of_ask) ne k = refl
  keeps_value (choosing true choices) x (of_choice s) (of_core of_any) ne k = refl
  keeps_value (choosing true choices) x (of_choice s) (of_core (of_latch j)) ne k = refl
  keeps_value (choosing true choices) x (of_choice s) (of_core (of_start j)) ne k = refl
  keeps_value (choosing true choices) x (of_choice s) (of_guard q) ne k = refl
  keeps_value (choosing true choices) x (of_choice s) (of_round of_answer) ne k = refl
  keeps_value (choosing true choices) x (of_choice s) (of_round of_turn) ne k = refl
  keeps_value (choosing true choices) x (of_choice s) (of_round of_leave) ne k = refl
  keeps_value (choosing true choices) x (of_round of_leave) (of_round of_leave) ne k = absurd (ne refl)
  keeps_value (choosing true choices) x (of_round of_leave) (of_round of_answer) ne k = refl
  keeps_value (choosing true choices) x (of_round of_leave) (of_round of_turn) ne k = refl
  keeps_value (choosing true choices) x (of_round of_leave) (of_core q) ne k = refl
  keeps_value (choosing true choices) x (of_round of_leave) (of_guard q) ne k = refl
  keeps_value (choosing true choices) x (of_round of_leave) (of_choice q) ne k = refl
  keeps_value (choosing true choices) x (of_round of_answer) q ne k = falls k
  keeps_value (choosing true choices) x (of_round of_turn) q ne k = falls k

  choice_keeps_value : (choices : Choices) (x : ChoiceCells choices) (s q : ChoiceSpot choices) → (s ≡ q → ⊥) → choice_rises s ≡ true
      → choice_value choices (turned_choice choices x q) s ≡ choice_value choices x s
  choice_keeps_value (and_choice g p more) x (this_choice s) (this_choice q) ne k = keeps_value p x.0 s q (λ e. ne (ap (λ z. this_choice z) e)) k
  choice_keeps_value (and_choice g p more) x (this_choice s) (other_choice q) ne k = refl
  choice_keeps_value (and_choice g p more) x (other_choice s) (this_choice q) ne k = refl
  choice_keeps_value (and_choice g p more) x (other_choice s) (other_choice q) ne k =
      choice_keeps_value more x.1 s q (λ e. ne (ap (λ z. other_choice z) e)) k
  choice_keeps_value no_choices x s q ne k = elim s [ ]

  branch_keeps_value : (members : Processes) (x : BranchCells members) (s q : BranchSpot members) → (s ≡ q → ⊥) → branch_rises s ≡ true
      → branch_value members (turned_branches members x q) s ≡ branch_value members x s
  branch_keeps_value (and_member p more) x (in_this s) (in_this q) ne k = guarded_keeps_value p x.0 s q (λ e. ne (ap (λ z. in_this z) e)) k
  branch_keeps_value (and_member p more) x (in_this s) (in_others q) ne k = refl
  branch_keeps_value (and_member p more) x (in_others s) (in_this q) ne k = refl
  branch_keeps_value (and_member p more) x (in_others s) (in_others q) ne k = branch_keeps_value more x.1 s q (λ e. ne (ap (λ z. in_others z) e)) k
  branch_keeps_value no_members x s q ne k = elim s [ ]

  turn_keeps_value : (members : Processes) (x : TurnCells members) (s q : TurnSpot members) → (s ≡ q → ⊥) → turn_rises s ≡ true
      → turn_value members (turned_turn members x q) s ≡ turn_value members x s
  turn_keeps_value (and_member p no_members) x (in_last s) (in_last q) ne k = keeps_value p x s q (λ e. ne (ap (λ z. in_last z) e)) k
  turn_keeps_value (and_member p (and_member r more)) x (in_member s) (in_member q) ne k =
      guarded_keeps_value p x.member s q (λ e. ne (ap (λ z. in_member z) e)) k
  turn_keeps_value (and_member p (and_member r more)) x (in_member s) (in_later q) ne k = refl
  turn_keeps_value (and_member p (and_member r more)) x (in_later s) (in_member q) ne k = refl
  turn_keeps_value (and_member p (and_member r more)) x (in_later s) (in_later q) ne k =
      turn_keeps_value (and_member r more) x.later s q (λ e. ne (ap (λ z. in_later z) e)) k
  turn_keeps_value no_members x s q ne k = elim s [ ]
