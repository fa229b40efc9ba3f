-- A node that makes a step has a value of its own, which no other node's move changes.
use Rattle.std.proofs.Common.{◌≡◌, ◌≢◌, ℕ, ◌==◌, Bool, true, false, refl, sym, ap, ◌∙◌}
use Rattle.std.specs.Prelude.{not, if◌then◌else◌}
use Rattle.prs_core.specs.Parts.{turned}
use Rattle.width_check.specs.Processes.{Process, skipping, assigning, sending, receiving, in_turn, side_by_side, choosing, repeating, Processes, no_members, and_member, Choices, no_choices, and_choice, choice_count, TypedProgram}
use Rattle.circuit_places.specs.Lines.{Seen}
use Rattle.circuit_places.specs.Heads.{Bits}
use Rattle.circuit_places.specs.Cores.{of_joined, of_ask, of_any, of_latch, of_start, of_answer, of_turn, of_leave}
use Rattle.circuit_places.specs.Circuit.{Cells, QElementCells, BranchCells, TurnCells, ChoiceCells, GuardedSpot, child, latch, next, inner, Spot, of_skip, of_assign, of_send, of_receive, in_members, of_branch, joint, of_loop, ask, in_body, of_core, of_guard, of_choice, of_round, ChoiceSpot, this_choice, other_choice, BranchSpot, in_this, in_others, TurnSpot, in_last, in_member, in_later, guarded_rule, rule, choice_rule, branch_rule, turn_rule}
use Rattle.circuit_places.specs.Whole.{Whole, Node, go_node, own_node, rail_node, ack_node, bit_node, wrote_node, joint_node, cells_moved}
use Rattle.circuit_places.proofs.Flow.{cases}
use Rattle.circuit_places.proofs.LineNames.{same_number}
use Rattle.circuit_places.proofs.StillSteps.{guarded_rises, rises, choice_rises, branch_rises, turn_rises, guarded_value, value_at, choice_value, branch_value, turn_value, guarded_keeps_value}

-- the nodes whose moves can be steps
abbrev pub Rising : {p : Process} → Node p → Type 0
Rising (own_node s) = guarded_rises s ≡ true
Rising (ack_node k) = Unit {0}
Rising (wrote_node x i) = Unit {0}
Rising (joint_node x k) = Unit {0}
Rising _ = ⊥

abbrev pub value_of : (P : TypedProgram) → Whole P.body → Node P.body → Bool
value_of P x (own_node s) = guarded_value P.body x.root s
value_of P x (ack_node k) = x.wires.ack k
value_of P x (wrote_node v i) = x.wires.wrote v i
value_of P x (joint_node v k) = x.wires.joint v k
value_of P x _ = true

falls : {A : Type 0} → false ≡ true → A
falls e = absurd (cc e)

-- an own one's is that of its rule
mutual
  pub guarded_now : (p : Process) (w : Seen) (r : Bool) (x : QElementCells (Cells p)) (s : GuardedSpot p) → guarded_rises s ≡ true
      → (guarded_rule p w r x s).now ≡ guarded_value p x s
  guarded_now p w r x (inner s) k = now_is p w x.child x.inner s k
  guarded_now p w r x child k = falls k
  guarded_now p w r x latch k = falls k
  guarded_now p w r x next k = falls k

  pub now_is : (p : Process) (w : Seen) (r : Bool) (x : Cells p) (s : Spot p) → rises s ≡ true → (rule p w r x s).now ≡ value_at p x s
  now_is skipping w r x of_skip k = refl
  now_is (assigning y at e) w r x (of_assign s) k = falls k
  now_is (sending c at e) w r x (of_send s) k = falls k
  now_is (receiving c at y to) w r x (of_receive s) k = falls k
  now_is (in_turn members) w r x (in_members s) k = turn_now members w r x s k
  now_is (side_by_side members) w r x (of_branch s) k = branch_now members w r x.branches s k
  now_is (side_by_side members) w r x (joint j) k = falls k
  now_is (repeating p) w r x of_loop k = falls k
  now_is (repeating p) w r x ask k = refl
  now_is (repeating p) w r x (in_body s) k = now_is p w x.ask x.inner s k
  now_is (choosing false choices) w r x (of_core (of_latch i)) k = refl
  now_is (choosing false choices) w r x (of_core of_joined) k = falls k
  now_is (choosing false choices) w r x (of_core of_ask) k = falls k
  now_is (choosing false choices) w r x (of_core of_any) k = falls k
  now_is (choosing false choices) w r x (of_core (of_start i)) k = falls k
  now_is (choosing false choices) w r x (of_guard s) k = falls k
  now_is (choosing false choices) w r x (of_choice s) k = choice_now choices w x.started x.branches s k
  now_is (choosing true choices) w r x (of_core (of_latch i)) k = refl
  now_is (choosing true choices) w r x (of_core of_joined) k = falls k
  now_is (choosing true choices) w r x (of_core of_ask) k = falls k
  now_is (choosing true choices) w r x (of_core of_any) k = falls k
  now_is (choosing true choices) w r x (of_core (of_start i)) k = falls k
  now_is (choosing true choices) w r x (of_guard s) k = falls k
  now_is (choosing true choices) w r x (of_choice s) k = choice_now choices w x.core.started x.core.branches s k
  now_is (choosing true choices) w r x (of_round of_leave) k = refl
  now_is (choosing true choices) w r x (of_round of_answer) k = falls k
  now_is (choosing true choices) w r x (of_round of_turn) k = falls k

  choice_now : (choices : Choices) (w : Seen) (b : Bits (choice_count choices)) (x : ChoiceCells choices) (s : ChoiceSpot choices) → choice_rises s ≡ true
      → (choice_rule choices w b x s).now ≡ choice_value choices x s
  choice_now no_choices w b x s k = elim s [ ]
  choice_now (and_choice g p more) w b x (this_choice s) k = now_is p w b.0 x.0 s k
  choice_now (and_choice g p more) w b x (other_choice s) k = choice_now more w b.1 x.1 s k

  branch_now : (members : Processes) (w : Seen) (r : Bool) (x : BranchCells members) (s : BranchSpot members) → branch_rises s ≡ true
      → (branch_rule members w r x s).now ≡ branch_value members x s
  branch_now no_members w r x s k = elim s [ ]
  branch_now (and_member p more) w r x (in_this (inner s)) k = now_is p w x.0.child x.0.inner s k
  branch_now (and_member p more) w r x (in_this child) k = falls k
  branch_now (and_member p more) w r x (in_this latch) k = falls k
  branch_now (and_member p more) w r x (in_this next) k = falls k
  branch_now (and_member p more) w r x (in_others s) k = branch_now more w r x.1 s k

  turn_now : (members : Processes) (w : Seen) (r : Bool) (x : TurnCells members) (s : TurnSpot members) → turn_rises s ≡ true
      → (turn_rule members w r x s).now ≡ turn_value members x s
  turn_now no_members w r x s k = elim s [ ]
  turn_now (and_member p no_members) w r x (in_last s) k = now_is p w r x s k
  turn_now (and_member p (and_member q more)) w r x (in_member (inner s)) k = now_is p w x.member.child x.member.inner s k
  turn_now (and_member p (and_member q more)) w r x (in_member child) k = falls k
  turn_now (and_member p (and_member q more)) w r x (in_member latch) k = falls k
  turn_now (and_member p (and_member q more)) w r x (in_member next) k = falls k
  turn_now (and_member p (and_member q more)) w r x (in_later s) k = turn_now (and_member q more) w x.member.next x.later s k

-- one number of a variable's turns over, another one
two_kept : (f : ℕ → ℕ → Bool) (v i y j : ℕ) → (v ≡ y → i ≡ j → ⊥) → (if v == y then turned (f y) j else f v) i ≡ f v i
two_kept f v i y j ne = cases (v == y)
    (λ (h : (v == y) ≡ true).
    let same = same_number v y h in
    ap (λ b. (if b then turned (f y) j else f v) i) h
    ∙ (cases (i == j) (λ (g : (i == j) ≡ true). absurd (ne same (same_number i j g))) (λ (g : (i == j) ≡ false). ap (λ b. if b then not (f y i) else f y i) g)
    ∙ ap (λ z. f z i) (sym same)))
    (λ (h : (v == y) ≡ false). ap (λ b. (if b then turned (f y) j else f v) i) h)

pub kept_value : (P : TypedProgram) (x : Whole P.body) (n m : Node P.body) → n ≢ m → Rising n → value_of P (cells_moved P x m) n ≡ value_of P x n
kept_value P x (own_node s) (own_node q) ne k = guarded_keeps_value P.body x.root s q (λ same. ne (ap (λ z. own_node z) same)) k
kept_value P x (own_node s) go_node ne k = refl
kept_value P x (own_node s) (rail_node l i one) ne k = refl
kept_value P x (own_node s) (ack_node j) ne k = refl
kept_value P x (own_node s) (bit_node v i one) ne k = refl
kept_value P x (own_node s) (wrote_node v i) ne k = refl
kept_value P x (own_node s) (joint_node v i) ne k = refl
kept_value P x (ack_node c) (ack_node j) ne k = cases (c == j)
    (λ (h : (c == j) ≡ true). absurd (ne (ap (λ z. ack_node z) (same_number c j h))))
    (λ (h : (c == j) ≡ false). ap (λ b. if b then not (x.wires.ack j) else x.wires.ack c) h)
kept_value P x (ack_node c) go_node ne k = refl
kept_value P x (ack_node c) (own_node s) ne k = refl
kept_value P x (ack_node c) (rail_node l i one) ne k = refl
kept_value P x (ack_node c) (bit_node v i one) ne k = refl
kept_value P x (ack_node c) (wrote_node v i) ne k = refl
kept_value P x (ack_node c) (joint_node v i) ne k = refl
kept_value P x (wrote_node v i) (wrote_node y j) ne k =
    two_kept x.wires.wrote v i y j (λ a b. ne (ap (λ z. wrote_node z i) a ∙ ap (λ z. wrote_node y z) b))
kept_value P x (wrote_node v i) go_node ne k = refl
kept_value P x (wrote_node v i) (own_node s) ne k = refl
kept_value P x (wrote_node v i) (rail_node l j one) ne k = refl
kept_value P x (wrote_node v i) (ack_node j) ne k = refl
kept_value P x (wrote_node v i) (bit_node y j one) ne k = refl
kept_value P x (wrote_node v i) (joint_node y j) ne k = refl
kept_value P x (joint_node v i) (joint_node y j) ne k =
    two_kept x.wires.joint v i y j (λ a b. ne (ap (λ z. joint_node z i) a ∙ ap (λ z. joint_node y z) b))
kept_value P x (joint_node v i) go_node ne k = refl
kept_value P x (joint_node v i) (own_node s) ne k = refl
kept_value P x (joint_node v i) (rail_node l j one) ne k = refl
kept_value P x (joint_node v i) (ack_node j) ne k = refl
kept_value P x (joint_node v i) (bit_node y j one) ne k = refl
kept_value P x (joint_node v i) (wrote_node y j) ne k = refl
kept_value P x go_node m ne k = absurd k
kept_value P x (rail_node l i one) m ne k = absurd k
kept_value P x (bit_node v i one) m ne k = absurd k
