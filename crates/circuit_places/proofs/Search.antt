-- The nodes of a circuit can be searched: some node that is there has a property, or none does.
use Rattle.std.proofs.Common.{◌≡◌, ℕ, zero, suc, ◌<◌, Bool, true, false, List, length, refl, sym, subst, inl, inr, arith}
use Rattle.std.proofs.lemmas.Bool.{cases_eq}
use Rattle.std.specs.Prelude.{◌⊎◌, nat_lt}
use Rattle.chp_base.specs.declared.channel.Channel.{Channel}
use Rattle.width_check.specs.Processes.{Process, skipping, assigning, sending, receiving, in_turn, side_by_side, choosing, repeating, Processes, no_members, and_member, member_count, Choices, no_choices, and_choice, choice_count, TypedProgram, Formula}
use Rattle.width_check.specs.Typing.{channel_width, var_width}
use Rattle.circuit_places.specs.Heads.{Index, top, under}
use Rattle.circuit_places.specs.Cores.{OwnSpot, of_joined, of_ask, of_any, of_latch, of_start, RoundSpot, of_answer, of_turn, of_leave}
use Rattle.circuit_places.specs.Lines.{of_channel, of_var}
use Rattle.circuit_places.specs.Circuit.{gate_count, joint_count, GuardSpot, this_gate, other_gate, SiteSpot, done, gate, PortSpot, heard, stored, taking, GuardedSpot, child, latch, next, inner, Spot, of_skip, of_assign, of_send, of_receive, in_members, of_branch, joint, of_loop, ask, in_body, of_core, of_guard, of_choice, of_round, ChoiceSpot, this_choice, other_choice, BranchSpot, in_this, in_others, TurnSpot, in_last, in_member, in_later, site_stands, port_stands, guard_stands, guarded_stands, stands, choice_stands, branch_stands, turn_stands}
use Rattle.circuit_places.specs.Whole.{Node, go_node, own_node, rail_node, ack_node, bit_node, wrote_node, joint_node, is_node}
use Rattle.circuit_places.proofs.CircuitFalls.{channel_there, var_there}
use Rattle.circuit_places.proofs.Quiet.{search}
use Rattle.circuit_places.proofs.Phases.{below}

-- one has the property
abbrev Found : (A : Type 0) → (A → Bool) → Type 0
Found A f = (a : A) × (f a ≡ true)

abbrev pub Finds : (A : Type 0) → (A → Bool) → Type 0
Finds A there = (f : A → Bool) → ((a : A) × (f a ≡ true)) ⊎ ((a : A) → there a ≡ true → f a ≡ false)

chain : {X Y Z : Type 0} → X ⊎ Y → (Y → X ⊎ Z) → X ⊎ Z
chain (inl x) go = inl x
chain (inr y) go = go y

-- one thing
this : {A : Type 0} (a : A) (f : A → Bool) → Found A f ⊎ (f a ≡ false)
this {A = A} a f = by (f a) refl
  where
    by : (b : Bool) → f a ≡ b → Found A f ⊎ (f a ≡ false)
    by true e = inl (a, e)
    by false e = inr e

-- those of a kind
piece : {A B : Type 0} {there : B → Bool} (g : B → A) (f : A → Bool) → Finds B there → Found A f ⊎ ((b : B) → there b ≡ true → f (g b) ≡ false)
piece {A = A} {B = B} {there = there} g f finds = by (finds (λ b. f (g b)))
  where
    by : ((b : B) × (f (g b) ≡ true)) ⊎ ((b : B) → there b ≡ true → f (g b) ≡ false) → Found A f ⊎ ((b : B) → there b ≡ true → f (g b) ≡ false)
    by (inl (b, e)) = inl (g b, e)
    by (inr none) = inr none

finds_below : (n : ℕ) → Finds ℕ (λ i. nat_lt i n)
finds_below n f = chain (search n f) (λ none. inr (λ i h. none i (below i n h)))

-- two for each number
finds_sides : {A : Type 0} (n : ℕ) (g : ℕ → Bool → A) (f : A → Bool) → Found A f ⊎ ((i : ℕ) (one : Bool) → nat_lt i n ≡ true → f (g i one) ≡ false)
finds_sides n g f = chain (piece (λ i. g i true) f (finds_below n)) (λ a. chain (piece (λ i. g i false) f (finds_below n)) (λ b. inr (by a b)))
  where
    by : ((i : ℕ) → nat_lt i n ≡ true → f (g i true) ≡ false) → ((i : ℕ) → nat_lt i n ≡ true → f (g i false) ≡ false) → (i : ℕ) (one : Bool)
        → nat_lt i n ≡ true → f (g i one) ≡ false
    by a b i true h = a i h
    by a b i false h = b i h

-- so many for each number
finds_each : {A : Type 0} (n : ℕ) (w : ℕ → ℕ) (g : ℕ → ℕ → A) (f : A → Bool)
    → Found A f ⊎ ((x i : ℕ) → x < n → nat_lt i (w x) ≡ true → f (g x i) ≡ false)
finds_each zero w g f = inr (λ x i less h. absurd (omega (arith, less)))
finds_each (suc n) w g f = chain (finds_each n w g f) (λ a. chain (piece (g n) f (finds_below (w n))) (λ b. inr (by a b)))
  where
    by : ((x i : ℕ) → x < n → nat_lt i (w x) ≡ true → f (g x i) ≡ false) → ((i : ℕ) → nat_lt i (w n) ≡ true → f (g n i) ≡ false) → (x i : ℕ) → x < suc n
        → nat_lt i (w x) ≡ true → f (g x i) ≡ false
    by a b x i less h = at (cases_eq x n)
      where
        at : (x ≡ n) ⊎ (x ≡ n → ⊥) → f (g x i) ≡ false
        at (inl same) = subst (λ (z : ℕ). (j : ℕ) → nat_lt j (w z) ≡ true → f (g z j) ≡ false) (sym same) b i h
        at (inr ne) = a x i (omega (arith, less, ne)) h

-- the nodes of a process

finds_index : (n : ℕ) → Finds (Index n) (λ i. true)
finds_index zero f = inr (λ i h. elim i [ ])
finds_index (suc n) f = chain (this top f) (λ a. chain (piece (λ i. under i) f (finds_index n)) (λ b. inr (by a b)))
  where
    by : f top ≡ false → ((i : Index n) → true ≡ true → f (under i) ≡ false) → (i : Index (suc n)) → true ≡ true → f i ≡ false
    by a b top h = a
    by a b (under i) h = b i h

finds_core : (n : ℕ) → Finds (OwnSpot n) (λ s. true)
finds_core n f = chain (this of_joined f) (λ a. chain (this of_ask f) (λ b. chain (this of_any f) (λ c. chain (piece (λ i. of_latch i) f (finds_index n))
    (λ d. chain (piece (λ i. of_start i) f (finds_index n)) (λ e. inr (by a b c d e))))))
  where
    by : f of_joined ≡ false → f of_ask ≡ false → f of_any ≡ false → ((i : Index n) → true ≡ true → f (of_latch i) ≡ false)
        → ((i : Index n) → true ≡ true → f (of_start i) ≡ false) → (s : OwnSpot n) → true ≡ true → f s ≡ false
    by a b c d e of_joined h = a
    by a b c d e of_ask h = b
    by a b c d e of_any h = c
    by a b c d e (of_latch i) h = d i h
    by a b c d e (of_start i) h = e i h

finds_round : Finds RoundSpot (λ s. true)
finds_round f = chain (this of_answer f) (λ a. chain (this of_turn f) (λ b. chain (this of_leave f) (λ c. inr (by a b c))))
  where
    by : f of_answer ≡ false → f of_turn ≡ false → f of_leave ≡ false → (s : RoundSpot) → true ≡ true → f s ≡ false
    by a b c of_answer h = a
    by a b c of_turn h = b
    by a b c of_leave h = c

finds_site : (e : Formula) → Finds (SiteSpot e) (λ s. site_stands s)
finds_site e f = chain (this done f) (λ a. chain (finds_sides (gate_count e) (λ k one. gate k one) f) (λ b. inr (by a b)))
  where
    by : f done ≡ false → ((k : ℕ) (one : Bool) → nat_lt k (gate_count e) ≡ true → f (gate k one) ≡ false) → (s : SiteSpot e) → site_stands s ≡ true
        → f s ≡ false
    by a b done h = a
    by a b (gate k one) h = b k one h

finds_port : (width : ℕ) → Finds PortSpot (λ s. port_stands width s)
finds_port width f = chain (this heard f) (λ a. chain (this stored f) (λ b. chain (finds_sides width (λ i one. taking i one) f) (λ c. inr (by a b c))))
  where
    by : f heard ≡ false → f stored ≡ false → ((i : ℕ) (one : Bool) → nat_lt i width ≡ true → f (taking i one) ≡ false) → (s : PortSpot)
        → port_stands width s ≡ true → f s ≡ false
    by a b c heard h = a
    by a b c stored h = b
    by a b c (taking i one) h = c i one h

finds_guards : (choices : Choices) → Finds (GuardSpot choices) (λ s. guard_stands s)
finds_guards no_choices f = inr (λ s h. elim s [ ])
finds_guards (and_choice g p more) f = chain (finds_sides (gate_count g) (λ k one. this_gate k one) f)
    (λ a. chain (piece (λ s. other_gate s) f (finds_guards more)) (λ b. inr (by a b)))
  where
    by : ((k : ℕ) (one : Bool) → nat_lt k (gate_count g) ≡ true → f (this_gate k one) ≡ false)
        → ((s : GuardSpot more) → guard_stands s ≡ true → f (other_gate s) ≡ false) → (s : GuardSpot (and_choice g p more)) → guard_stands s ≡ true
        → f s ≡ false
    by a b (this_gate k one) h = a k one h
    by a b (other_gate s) h = b s h

module _ (cs : List Channel) where
  guarded_finds : (p : Process) → Finds (Spot p) (λ s. stands cs s) → Finds (GuardedSpot p) (λ s. guarded_stands cs s)
  guarded_finds p finds f = chain (this child f) (λ a. chain (this latch f) (λ b. chain (this next f) (λ c. chain (piece (λ s. inner s) f finds)
      (λ d. inr (by a b c d)))))
    where
      by : f child ≡ false → f latch ≡ false → f next ≡ false → ((s : Spot p) → stands cs s ≡ true → f (inner s) ≡ false) → (s : GuardedSpot p)
          → guarded_stands cs s ≡ true → f s ≡ false
      by a b c d child h = a
      by a b c d latch h = b
      by a b c d next h = c
      by a b c d (inner s) h = d s h

  mutual
    finds_spot : (p : Process) → Finds (Spot p) (λ s. stands cs s)
    finds_spot skipping f = chain (this of_skip f) (λ a. inr (by a))
      where
        by : f of_skip ≡ false → (s : Spot skipping) → stands cs s ≡ true → f s ≡ false
        by a of_skip h = a
    finds_spot (assigning x at e) f = chain (piece (λ s. of_assign s) f (finds_site e)) (λ a. inr (by a))
      where
        by : ((s : SiteSpot e) → site_stands s ≡ true → f (of_assign s) ≡ false) → (s : Spot (assigning x at e)) → stands cs s ≡ true → f s ≡ false
        by a (of_assign s) h = a s h
    finds_spot (sending k at e) f = chain (piece (λ s. of_send s) f (finds_site e)) (λ a. inr (by a))
      where
        by : ((s : SiteSpot e) → site_stands s ≡ true → f (of_send s) ≡ false) → (s : Spot (sending k at e)) → stands cs s ≡ true → f s ≡ false
        by a (of_send s) h = a s h
    finds_spot (receiving k at x to) f = chain (piece (λ s. of_receive s) f (finds_port (channel_width cs k))) (λ a. inr (by a))
      where
        by : ((s : PortSpot) → port_stands (channel_width cs k) s ≡ true → f (of_receive s) ≡ false) → (s : Spot (receiving k at x to))
            → stands cs s ≡ true → f s ≡ false
        by a (of_receive s) h = a s h
    finds_spot (in_turn members) f = chain (piece (λ s. in_members s) f (finds_turn members)) (λ a. inr (by a))
      where
        by : ((s : TurnSpot members) → turn_stands cs s ≡ true → f (in_members s) ≡ false) → (s : Spot (in_turn members)) → stands cs s ≡ true → f s ≡ false
        by a (in_members s) h = a s h
    finds_spot (side_by_side members) f = chain (piece (λ s. of_branch s) f (finds_branch members))
        (λ a. chain (piece (λ k. joint k) f (finds_below (joint_count (member_count members)))) (λ b. inr (by a b)))
      where
        by : ((s : BranchSpot members) → branch_stands cs s ≡ true → f (of_branch s) ≡ false)
            → ((k : ℕ) → nat_lt k (joint_count (member_count members)) ≡ true → f (joint k) ≡ false) → (s : Spot (side_by_side members))
            → stands cs s ≡ true → f s ≡ false
        by a b (of_branch s) h = a s h
        by a b (joint k) h = b k h
    finds_spot (repeating p) f = chain (this of_loop f) (λ a. chain (this ask f) (λ b. chain (piece (λ s. in_body s) f (finds_spot p)) (λ c. inr (by a b c))))
      where
        by : f of_loop ≡ false → f ask ≡ false → ((s : Spot p) → stands cs s ≡ true → f (in_body s) ≡ false) → (s : Spot (repeating p)) → stands cs s ≡ true
            → f s ≡ false
        by a b c of_loop h = a
        by a b c ask h = b
        by a b c (in_body s) h = c s h
    finds_spot (choosing false choices) f = chain (piece (λ s. of_core s) f (finds_core (choice_count choices)))
        (λ a. chain (piece (λ s. of_guard s) f (finds_guards choices)) (λ b. chain (piece (λ s. of_choice s) f (finds_choice choices)) (λ c. inr (by a b c))))
      where
        by : ((s : OwnSpot (choice_count choices)) → true ≡ true → f (of_core s) ≡ false)
            → ((s : GuardSpot choices) → guard_stands s ≡ true → f (of_guard s) ≡ false)
            → ((s : ChoiceSpot choices) → choice_stands cs s ≡ true → f (of_choice s) ≡ false) → (s : Spot (choosing false choices)) → stands cs s ≡ true
            → f s ≡ false
        by a b c (of_core s) h = a s refl
        by a b c (of_guard s) h = b s h
        by a b c (of_choice s) h = c s h
    finds_spot (choosing true choices) f = chain (piece (λ s. of_core s) f (finds_core (choice_count choices)))
        (λ a. chain (piece (λ s. of_guard s) f (finds_guards choices)) (λ b. chain (piece (λ s. of_choice s) f (finds_choice choices))
        (λ c. chain (piece (λ s. of_round s) f finds_round) (λ d. inr (by a b c d)))))
      where
        by : ((s : OwnSpot (choice_count choices)) → true ≡ true → f (of_core s) ≡ false)
            → ((s : GuardSpot choices) → guard_stands s ≡ true → f (of_guard s) ≡ false)
            → ((s : ChoiceSpot choices) → choice_stands cs s ≡ true → f (of_choice s) ≡ false) → ((s : RoundSpot) → true ≡ true → f (of_round s) ≡ false)
            → (s : Spot (choosing true choices)) → stands cs s ≡ true → f s ≡ false
        by a b c d (of_core s) h = a s refl
        by a b c d (of_guard s) h = b s h
        by a b c d (of_choice s) h = c s h
        by a b c d (of_round s) h = d s refl

    finds_choice : (choices : Choices) → Finds (ChoiceSpot choices) (λ s. choice_stands cs s)
    finds_choice no_choices f = inr (λ s h. elim s [ ])
    finds_choice (and_choice g p more) f = chain (piece (λ s. this_choice s) f (finds_spot p))
        (λ a. chain (piece (λ s. other_choice s) f (finds_choice more)) (λ b. inr (by a b)))
      where
        by : ((s : Spot p) → stands cs s ≡ true → f (this_choice s) ≡ false) → ((s : ChoiceSpot more) → choice_stands cs s ≡ true → f (other_choice s) ≡ false)
            → (s : ChoiceSpot (and_choice g p more)) → choice_stands cs s ≡ true → f s ≡ false
        by a b (this_choice s) h = a s h
        by a b (other_choice s) h = b s h

    finds_branch : (members : Processes) → Finds (BranchSpot members) (λ s. branch_stands cs s)
    finds_branch no_members f = inr (λ s h. elim s [ ])
    finds_branch (and_member p more) f = chain (piece (λ s. in_this s) f (guarded_finds p (finds_spot p)))
        (λ a. chain (piece (λ s. in_others s) f (finds_branch more)) (λ b. inr (by a b)))
      where
        by : ((s : GuardedSpot p) → guarded_stands cs s ≡ true → f (in_this s) ≡ false) → ((s : BranchSpot more) → branch_stands cs s ≡ true
            → f (in_others s) ≡ false) → (s : BranchSpot (and_member p more)) → branch_stands cs s ≡ true → f s ≡ false
        by a b (in_this s) h = a s h
        by a b (in_others s) h = b s h

    finds_turn : (members : Processes) → Finds (TurnSpot members) (λ s. turn_stands cs s)
    finds_turn no_members f = inr (λ s h. elim s [ ])
    finds_turn (and_member p no_members) f = chain (piece (λ s. in_last s) f (finds_spot p)) (λ a. inr (by a))
      where
        by : ((s : Spot p) → stands cs s ≡ true → f (in_last s) ≡ false) → (s : TurnSpot (and_member p no_members)) → turn_stands cs s ≡ true → f s ≡ false
        by a (in_last s) h = a s h
    finds_turn (and_member p (and_member q more)) f = chain (piece (λ s. in_member s) f (guarded_finds p (finds_spot p)))
        (λ a. chain (piece (λ s. in_later s) f (finds_turn (and_member q more))) (λ b. inr (by a b)))
      where
        by : ((s : GuardedSpot p) → guarded_stands cs s ≡ true → f (in_member s) ≡ false)
            → ((s : TurnSpot (and_member q more)) → turn_stands cs s ≡ true → f (in_later s) ≡ false) → (s : TurnSpot (and_member p (and_member q more)))
            → turn_stands cs s ≡ true → f s ≡ false
        by a b (in_member s) h = a s h
        by a b (in_later s) h = b s h

-- a tree with a node of its own has a leaf
joints_some : (n k : ℕ) → k < joint_count n → 0 < n
joints_some zero k less = let z : joint_count 0 ≡ 0 = refl in absurd (omega (arith, less, z))
joints_some (suc n) k less = omega arith

-- the nodes of the whole circuit
module _ (P : TypedProgram) (f : Node P.body → Bool) where
  abbrev Some_node : Type 0
  Some_node = (n : Node P.body) × (f n ≡ true)

  of_channels : (g : ℕ → ℕ → Node P.body) → Some_node ⊎ ((c i : ℕ) → nat_lt i (channel_width P.channels c) ≡ true → f (g c i) ≡ false)
  of_channels g = chain (finds_each (length P.channels) (λ c. channel_width P.channels c) g f)
      (λ none. inr (λ c i h. none c i (channel_there P.channels c i (below i (channel_width P.channels c) h)) h))

  of_vars : (g : ℕ → ℕ → Node P.body) → Some_node ⊎ ((x i : ℕ) → nat_lt i (var_width P.vars x) ≡ true → f (g x i) ≡ false)
  of_vars g = chain (finds_each (length P.vars) (λ x. var_width P.vars x) g f)
      (λ none. inr (λ x i h. none x i (var_there P.vars x i (below i (var_width P.vars x) h)) h))

  joints : Some_node ⊎ ((x k : ℕ) → nat_lt k (joint_count (var_width P.vars x)) ≡ true → f (joint_node x k) ≡ false)
  joints = chain (finds_each (length P.vars) (λ x. joint_count (var_width P.vars x)) (λ x k. joint_node x k) f) (λ none. inr (λ x k h. by none x k h))
    where
      by : ((x k : ℕ) → x < length P.vars → nat_lt k (joint_count (var_width P.vars x)) ≡ true → f (joint_node x k) ≡ false) → (x k : ℕ)
          → nat_lt k (joint_count (var_width P.vars x)) ≡ true → f (joint_node x k) ≡ false
      by none x k h =
          none x k (var_there P.vars x 0 (joints_some (var_width P.vars x) k (below k (joint_count (var_width P.vars x)) h))) h

  pub searches : ((n : Node P.body) × (f n ≡ true)) ⊎ ((n : Node P.body) → is_node P n ≡ true → f n ≡ false)
  searches = chain (this go_node f) (λ a. chain (piece (λ s. own_node s) f (guarded_finds P.channels P.body (finds_spot P.channels P.body)))
      (λ b. chain (of_channels (λ c i. rail_node (of_channel c) i true)) (λ c. chain (of_channels (λ c i. rail_node (of_channel c) i false))
      (λ d. chain (of_vars (λ x i. rail_node (of_var x) i true)) (λ e. chain (of_vars (λ x i. rail_node (of_var x) i false))
      (λ g. chain (piece (λ k. ack_node k) f (finds_below (length P.channels))) (λ h. chain (of_vars (λ x i. bit_node x i true))
      (λ i. chain (of_vars (λ x i. bit_node x i false)) (λ j. chain (of_vars (λ x i. wrote_node x i)) (λ k. chain joints
      (λ l. inr (by a b c d e g h i j k l))))))))))))
    where
      by : f go_node ≡ false → ((s : GuardedSpot P.body) → guarded_stands P.channels s ≡ true → f (own_node s) ≡ false)
          → ((c i : ℕ) → nat_lt i (channel_width P.channels c) ≡ true → f (rail_node (of_channel c) i true) ≡ false)
          → ((c i : ℕ) → nat_lt i (channel_width P.channels c) ≡ true → f (rail_node (of_channel c) i false) ≡ false)
          → ((x i : ℕ) → nat_lt i (var_width P.vars x) ≡ true → f (rail_node (of_var x) i true) ≡ false)
          → ((x i : ℕ) → nat_lt i (var_width P.vars x) ≡ true → f (rail_node (of_var x) i false) ≡ false)
          → ((k : ℕ) → nat_lt k (length P.channels) ≡ true → f (ack_node k) ≡ false)
          → ((x i : ℕ) → nat_lt i (var_width P.vars x) ≡ true → f (bit_node x i true) ≡ false)
          → ((x i : ℕ) → nat_lt i (var_width P.vars x) ≡ true → f (bit_node x i false) ≡ false)
          → ((x i : ℕ) → nat_lt i (var_width P.vars x) ≡ true → f (wrote_node x i) ≡ false)
          → ((x k : ℕ) → nat_lt k (joint_count (var_width P.vars x)) ≡ true → f (joint_node x k) ≡ false) → (n : Node P.body) → is_node P n ≡ true
          → f n ≡ false
      by a b c d e g h i j k l go_node z = a
      by a b c d e g h i j k l (own_node s) z = b s z
      by a b c d e g h i j k l (rail_node (of_channel m) n true) z = c m n z
      by a b c d e g h i j k l (rail_node (of_channel m) n false) z = d m n z
      by a b c d e g h i j k l (rail_node (of_var m) n true) z = e m n z
      by a b c d e g h i j k l (rail_node (of_var m) n false) z = g m n z
      by a b c d e g h i j k l (ack_node m) z = h m z
      by a b c d e g h i j k l (bit_node m n true) z = i m n z
      by a b c d e g h i j k l (bit_node m n false) z = j m n z
      by a b c d e g h i j k l (wrote_node m n) z = k m n z
      by a b c d e g h i j k l (joint_node m n) z = l m n z
