-- The cells of a covered circuit as a list of values, in the order of the nodes' numbers.
use Rattle.std.proofs.Common.{◌≡◌, ◌≢◌, ℕ, zero, suc, ◌+◌, ◌-◌, ◌*◌, ◌<◌, ◌≤◌, ◌==◌, Bool, true, false, List, [], ◌∷◌, ◌++◌, length, get_or, set, replicate, refl, sym, ap, ◌∙◌, arith, length-append, ⊎_elim}
use Rattle.std.specs.Prelude.{not, ◌&&◌, if◌then◌else◌}
use Rattle.std.proofs.lemmas.Bool.{cases_lt, cases_eq, eq-eqb, ne_eqb}
use Rattle.std.proofs.lemmas.List.{replicate-append-replicate}
use Rattle.width_check.specs.Processes.{Formula, Process, skipping, assigning, sending, receiving, in_turn, side_by_side, choosing, repeating, Processes, no_members, and_member, member_count, TypedProgram, Choices, no_choices, and_choice, choice_count}
use Rattle.width_check.specs.Reads.{reads}
use Rattle.width_check.specs.Typing.{channel_width, var_width}
use Rattle.handshake_expand.specs.Layout.{formula_size, through_size, assign_size, size_of, turn_size, branches_size, guards_size, bodies_size}
pub use Rattle.function_blocks.specs.Listed.{rail_place}
use Rattle.function_blocks.proofs.PartSizes.{count_doubled}
use Rattle.circuit_places.specs.Lines.{Rails}
use Rattle.chp_meaning.specs.Halves.{ReadsNoTarget, EachReadsNoTarget, ChoicesReadNoTarget}
use Rattle.circuit_places.specs.Circuit.{same_bit, rails_turned, of_receive, heard, stored, taking, Pairs, gate_count, Cells, TurnCells, BranchCells, joint_count, low_pairs, low, low_turn, low_branches, Spot, TurnSpot, BranchSpot, of_branch, joint, in_this, in_others, child, latch, next, inner, of_skip, done, gate, of_assign, of_send, in_members, of_loop, ask, in_body, in_last, in_member, in_later, turned_pairs, flipped, turned_turn, turned_branches, GuardCells, ChoiceCells, low_guards, low_choices, GuardSpot, this_gate, other_gate, ChoiceSpot, this_choice, other_choice, of_core, of_guard, of_choice, of_round, turned_guards, turned_choice, low_bits as low_tree}
use Rattle.net_compose.proofs.FlatTrees.{joint_count_is, tree_bits, length-tree_bits, tree_turned, tree_low}
use Rattle.circuit_places.specs.Cores.{turned_own, turned_turning}
use Rattle.net_compose.proofs.FlatCore.{own_list, own_place, own_place_lt, own_spot_of, own_turned_is, own_guards, own_branches, length-own_list, low_lists, again_list, again_place, round_place, again_place_lt, round_place_lt, again_turned_is, round_turned_is, round_core, length-again_list, AtAgain, a_round, an_own, again_spot_of, set_first, set_second}

-- the rails of some pairs
abbrev pub pair_bits : (n : ℕ) → Pairs n → List Bool
pair_bits zero x = []
pair_bits (suc n) x = x.0.t ∷ x.0.f ∷ pair_bits n x.1

pub rail_place_is : (i : ℕ) (one : Bool) → rail_place i one ≡ 2 * i + (if one then 0 else 1)
rail_place_is zero true = refl
rail_place_is zero false = refl
rail_place_is (suc i) one = let e = rail_place_is i one in omega (arith, e)

pub rail_place_lt : (i n : ℕ) (one : Bool) → i < n → rail_place i one < 2 * n
rail_place_lt i n true h = let e = rail_place_is i true in omega (arith, e)
rail_place_lt i n false h = let e = rail_place_is i false in omega (arith, e)

pub length-pair_bits : (n : ℕ) (x : Pairs n) → length (pair_bits n x) ≡ 2 * n
length-pair_bits zero x = refl
length-pair_bits (suc n) x = omega (arith, length-pair_bits n x.1)

-- so many pairs of rails
abbrev pub rail_bits : (n : ℕ) → Rails → List Bool
rail_bits zero r = []
rail_bits (suc n) r = r zero true ∷ r zero false ∷ rail_bits n (λ i. r (suc i))

pub length-rail_bits : (n : ℕ) (r : Rails) → length (rail_bits n r) ≡ 2 * n
length-rail_bits zero r = refl
length-rail_bits (suc n) r = omega (arith, length-rail_bits n (λ i. r (suc i)))

pub rail_bits_same : (n : ℕ) (r q : Rails) → ((i : ℕ) (one : Bool) → r i one ≡ q i one) → rail_bits n r ≡ rail_bits n q
rail_bits_same zero r q e = refl
rail_bits_same (suc n) r q e =
    ap (λ b. b ∷ r zero false ∷ rail_bits n (λ i. r (suc i))) (e zero true)
    ∙ (ap (λ b. q zero true ∷ b ∷ rail_bits n (λ i. r (suc i))) (e zero false)
    ∙ ap (λ l. q zero true ∷ q zero false ∷ l) (rail_bits_same n (λ i. r (suc i)) (λ i. q (suc i)) (λ i one. e (suc i) one)))

same_suc : (j i : ℕ) → (j == i) ≡ (suc j == suc i)
same_suc j i = ⊎_elim
    (λ (e : j ≡ i). eq-eqb j i e ∙ sym (eq-eqb (suc j) (suc i) (ap suc e)))
    (λ (n : j ≢ i). ne_eqb j i n ∙ sym (ne_eqb (suc j) (suc i) (λ e. n (omega (arith, e)))))
    (cases_eq j i)

-- one of them flipped over
pub rail_turned_at : (n : ℕ) (r : Rails) (i : ℕ) (one : Bool) → i < n → set (rail_bits n r) (rail_place i one)
    (not (get_or (rail_bits n r) (rail_place i one) false)) ≡ rail_bits n (rails_turned r i one)
rail_turned_at zero r i one h = absurd (omega arith)
rail_turned_at (suc n) r zero true h =
    ap (λ l. not (r zero true) ∷ r zero false ∷ l) (rail_bits_same n (λ k. r (suc k)) (λ k. rails_turned r zero true (suc k))
    (λ k s. sym (ap (λ b. if b && same_bit s true then not (r zero true) else r (suc k) s) (ne_eqb (suc k) 0 (λ e. absurd (omega (arith, e)))))))
rail_turned_at (suc n) r zero false h =
    ap (λ l. r zero true ∷ not (r zero false) ∷ l) (rail_bits_same n (λ k. r (suc k)) (λ k. rails_turned r zero false (suc k))
    (λ k s. sym (ap (λ b. if b && same_bit s false then not (r zero false) else r (suc k) s) (ne_eqb (suc k) 0 (λ e. absurd (omega (arith, e)))))))
rail_turned_at (suc n) r (suc i) one h =
    let head = λ (s : Bool). ap (λ b. if b && same_bit s one then not (r (suc i) one) else r zero s) (ne_eqb 0 (suc i) (λ e. absurd (omega (arith, e)))) in
    let tail = rail_bits_same n (rails_turned (λ k. r (suc k)) i one) (λ k. rails_turned r (suc i) one (suc k))
    (λ k s. ap (λ b. if b && same_bit s one then not (r (suc i) one) else r (suc k) s) (same_suc k i)) in
    ap (λ l. r zero true ∷ r zero false ∷ l) (rail_turned_at n (λ k. r (suc k)) i one (omega arith) ∙ tail)
    ∙ (ap (λ b. b ∷ r zero false ∷ rail_bits n (λ k. rails_turned r (suc i) one (suc k))) (sym (head true))
    ∙ ap (λ b. rails_turned r (suc i) one zero true ∷ b ∷ rail_bits n (λ k. rails_turned r (suc i) one (suc k))) (sym (head false)))

pub low_rail_bits : (n : ℕ) → rail_bits n (λ i one. false) ≡ replicate (2 * n) false
low_rail_bits zero = refl
low_rail_bits (suc n) =
    let e : suc (suc (2 * n)) ≡ 2 * suc n = omega arith in
    ap (λ l. false ∷ false ∷ l) (low_rail_bits n) ∙ ap (λ m. replicate m false) e

-- the gates of guards
abbrev pub guard_bits : (choices : Choices) → GuardCells choices → List Bool
guard_bits no_choices x = []
guard_bits (and_choice g p more) x = pair_bits (gate_count g) x.0 ++ guard_bits more x.1

abbrev pub guard_place : {choices : Choices} → GuardSpot choices → ℕ
guard_place (this_gate i one) = rail_place i one
guard_place (other_gate {g = g} s) = formula_size g + guard_place s

abbrev pub IsFineGuard : {choices : Choices} → GuardSpot choices → Type 0
IsFineGuard (this_gate {g = g} i one) = i < gate_count g
IsFineGuard (other_gate s) = IsFineGuard s

pub length-guard_bits : (choices : Choices) (x : GuardCells choices) → length (guard_bits choices x) ≡ guards_size choices
length-guard_bits no_choices x = refl
length-guard_bits (and_choice g p more) x = omega (
  arith,
  length-append (pair_bits (gate_count g) x.0) (guard_bits more x.1),
  length-pair_bits (gate_count g) x.0,
  count_doubled g,
  length-guard_bits more x.1,
)

pub guard_place_lt : (choices : Choices) (s : GuardSpot choices) → IsFineGuard s → guard_place s < guards_size choices
guard_place_lt (and_choice g p more) (this_gate i one) f = omega (arith, rail_place_lt i (gate_count g) one f, count_doubled g)
guard_place_lt (and_choice g p more) (other_gate s) f = omega (arith, guard_place_lt more s f)
guard_place_lt no_choices s f = elim s [ ]

abbrev mutual
  pub bits : TypedProgram → (p : Process) → Cells p → List Bool
  bits P skipping x = x ∷ []
  bits P (assigning y at e) x = x.answer ∷ pair_bits (gate_count e) x.gates
  bits P (sending chan at e) x = x.answer ∷ pair_bits (gate_count e) x.gates
  bits P (in_turn members) x = turn_bits P members x
  bits P (side_by_side members) x = branch_bits P members x.branches ++ tree_bits (joint_count (member_count members)) x.tree
  bits P (repeating p) x = x.answer ∷ x.ask ∷ bits P p x.inner
  bits P (receiving chan at y to) x = x.answer ∷ x.kept ∷ rail_bits (channel_width P.channels chan) x.taken
  bits P (choosing false choices) x = own_list x ++ (guard_bits choices x.guards ++ choice_bits P choices x.branches)
  bits P (choosing true choices) x = again_list x ++ (guard_bits choices x.core.guards ++ choice_bits P choices x.core.branches)

  pub choice_bits : TypedProgram → (choices : Choices) → ChoiceCells choices → List Bool
  choice_bits P no_choices x = []
  choice_bits P (and_choice g p more) x = bits P p x.0 ++ choice_bits P more x.1

  pub branch_bits : TypedProgram → (members : Processes) → BranchCells members → List Bool
  branch_bits P no_members x = []
  branch_bits P (and_member p more) x = x.0.child ∷ x.0.latch ∷ x.0.next ∷ (bits P p x.0.inner ++ branch_bits P more x.1)

  pub turn_bits : TypedProgram → (members : Processes) → TurnCells members → List Bool
  turn_bits P no_members x = []
  turn_bits P (and_member p no_members) x = bits P p x
  turn_bits P (and_member p (and_member q more)) x =
      x.member.child ∷ x.member.latch ∷ x.member.next ∷ (bits P p x.member.inner ++ turn_bits P (and_member q more) x.later)

-- which rail a number is
pub record Rail (n k : ℕ) : Type 0 where
  pub bit : ℕ
  pub one : Bool
  pub below : bit < n
  pub is : rail_place bit one ≡ k

pub rail_of : (n k : ℕ) → k < 2 * n → Rail n k
rail_of zero k h = absurd (omega arith)
rail_of (suc n) zero h = record { bit = zero; one = true; below = omega arith; is = refl }
rail_of (suc n) (suc zero) h = record { bit = zero; one = false; below = omega arith; is = refl }
rail_of (suc n) (suc (suc k)) h = let r = rail_of n k (omega arith) in record {
  bit = suc r.bit;
  one = r.one;
  below = omega (arith, r.below);
  is = ap
      (λ m. suc (suc m)) r.is;
}

module _ (P : TypedProgram) where
  -- where a node is in the list
  abbrev mutual
    pub place : (p : Process) → Spot p → ℕ
    place skipping of_skip = 0
    place (assigning y at e) (of_assign done) = 0
    place (assigning y at e) (of_assign (gate i one)) = suc (rail_place i one)
    place (sending chan at e) (of_send done) = 0
    place (sending chan at e) (of_send (gate i one)) = suc (rail_place i one)
    place (in_turn members) (in_members s) = turn_place members s
    place (side_by_side members) (of_branch s) = branch_place members s
    place (side_by_side members) (joint k) = branches_size P members + k
    place (repeating p) of_loop = 0
    place (repeating p) ask = 1
    place (repeating p) (in_body s) = suc (suc (place p s))
    place (receiving chan at y to) (of_receive heard) = 0
    place (receiving chan at y to) (of_receive stored) = 1
    place (receiving chan at y to) (of_receive (taking i one)) = suc (suc (rail_place i one))
    place (choosing false choices) (of_core s) = own_place s
    place (choosing false choices) (of_guard s) = 3 + (choice_count choices + choice_count choices) + guard_place s
    place (choosing false choices) (of_choice s) = 3 + (choice_count choices + choice_count choices) + (guards_size choices + choice_place choices s)
    place (choosing true choices) (of_core s) = again_place s
    place (choosing true choices) (of_guard s) = 6 + (choice_count choices + choice_count choices) + guard_place s
    place (choosing true choices) (of_choice s) = 6 + (choice_count choices + choice_count choices) + (guards_size choices + choice_place choices s)
    place (choosing true choices) (of_round s) = round_place s

    pub choice_place : (choices : Choices) → ChoiceSpot choices → ℕ
    choice_place no_choices s = 0
    choice_place (and_choice g p more) (this_choice s) = place p s
    choice_place (and_choice g p more) (other_choice s) = size_of P p + choice_place more s

    pub branch_place : (members : Processes) → BranchSpot members → ℕ
    branch_place no_members s = 0
    branch_place (and_member p more) (in_this child) = 0
    branch_place (and_member p more) (in_this latch) = 1
    branch_place (and_member p more) (in_this next) = 2
    branch_place (and_member p more) (in_this (inner s)) = suc (suc (suc (place p s)))
    branch_place (and_member p more) (in_others s) = suc (suc (suc (size_of P p + branch_place more s)))

    pub turn_place : (members : Processes) → TurnSpot members → ℕ
    turn_place no_members s = 0
    turn_place (and_member p no_members) (in_last s) = place p s
    turn_place (and_member p (and_member q more)) (in_member child) = 0
    turn_place (and_member p (and_member q more)) (in_member latch) = 1
    turn_place (and_member p (and_member q more)) (in_member next) = 2
    turn_place (and_member p (and_member q more)) (in_member (inner s)) = suc (suc (suc (place p s)))
    turn_place (and_member p (and_member q more)) (in_later s) = suc (suc (suc (size_of P p + turn_place (and_member q more) s)))

  -- the spot has a node: its bit is one of the expression's
  abbrev mutual
    pub IsFine : (p : Process) → Spot p → Type 0
    IsFine (assigning y at e) (of_assign (gate i one)) = i < gate_count e
    IsFine (sending chan at e) (of_send (gate i one)) = i < gate_count e
    IsFine (receiving chan at y to) (of_receive (taking i one)) = i < channel_width P.channels chan
    IsFine (in_turn members) (in_members s) = IsFineTurn members s
    IsFine (side_by_side members) (of_branch s) = IsFineBranch members s
    IsFine (side_by_side members) (joint k) = k < joint_count (member_count members)
    IsFine (repeating p) (in_body s) = IsFine p s
    IsFine (choosing again choices) (of_guard s) = IsFineGuard s
    IsFine (choosing again choices) (of_choice s) = IsFineChoice choices s
    IsFine _ s = Unit {0}

    pub IsFineChoice : (choices : Choices) → ChoiceSpot choices → Type 0
    IsFineChoice (and_choice g p more) (this_choice s) = IsFine p s
    IsFineChoice (and_choice g p more) (other_choice s) = IsFineChoice more s
    IsFineChoice _ s = Unit {0}

    pub IsFineBranch : (members : Processes) → BranchSpot members → Type 0
    IsFineBranch (and_member p more) (in_this (inner s)) = IsFine p s
    IsFineBranch (and_member p more) (in_others s) = IsFineBranch more s
    IsFineBranch _ s = Unit {0}

    pub IsFineTurn : (members : Processes) → TurnSpot members → Type 0
    IsFineTurn (and_member p no_members) (in_last s) = IsFine p s
    IsFineTurn (and_member p (and_member q more)) (in_member (inner s)) = IsFine p s
    IsFineTurn (and_member p (and_member q more)) (in_later s) = IsFineTurn (and_member q more) s
    IsFineTurn _ s = Unit {0}

  -- an assignment that doesn't read its target has no more nodes than a send
  pub plain_size : (z : ℕ) (e : Formula) → reads z e ≡ false → assign_size P z e ≡ 1 + formula_size e
  plain_size z e c = ap (λ b. if b then through_size (var_width P.vars z) e else 1 + formula_size e) c

  mutual
    pub length-bits : (p : Process) → ReadsNoTarget p → (x : Cells p) → length (bits P p x) ≡ size_of P p
    length-bits skipping c x = refl
    length-bits (sending chan at e) c x = omega (arith, length-pair_bits (gate_count e) x.gates, count_doubled e)
    length-bits (in_turn members) c x = length-turn_bits members c x
    length-bits (repeating p) c x = omega (arith, length-bits p c x.inner)
    length-bits (assigning z at e) c x = omega (arith, length-pair_bits (gate_count e) x.gates, count_doubled e, plain_size z e c)
    length-bits (receiving chan at z to) c x = omega (arith, length-rail_bits (channel_width P.channels chan) x.taken)
    length-bits (side_by_side members) c x =
        omega (
          arith,
          length-append (branch_bits P members x.branches) (tree_bits (joint_count (member_count members)) x.tree),
          length-branch_bits members c x.branches,
          length-tree_bits (joint_count (member_count members)) x.tree,
          joint_count_is (member_count members),
        )
    length-bits (choosing false choices) c x = omega (
      arith,
      length-append (own_list x) (guard_bits choices x.guards ++ choice_bits P choices x.branches),
      length-append (guard_bits choices x.guards) (choice_bits P choices x.branches),
      length-own_list x,
      length-guard_bits choices x.guards,
      length-choice_bits choices c x.branches,
    )
    length-bits (choosing true choices) c x = omega (
      arith,
      length-append (again_list x) (guard_bits choices x.core.guards ++ choice_bits P choices x.core.branches),
      length-append (guard_bits choices x.core.guards) (choice_bits P choices x.core.branches),
      length-again_list x,
      length-guard_bits choices x.core.guards,
      length-choice_bits choices c x.core.branches,
    )

    pub length-choice_bits : (choices : Choices) → ChoicesReadNoTarget choices → (x : ChoiceCells choices)
        → length (choice_bits P choices x) ≡ bodies_size P choices
    length-choice_bits no_choices c x = refl
    length-choice_bits (and_choice g p more) c x =
        omega (arith, length-append (bits P p x.0) (choice_bits P more x.1), length-bits p c.0 x.0, length-choice_bits more c.1 x.1)

    pub length-branch_bits : (members : Processes) → EachReadsNoTarget members → (x : BranchCells members) →
        length (branch_bits P members x) ≡ branches_size P members
    length-branch_bits no_members c x = refl
    length-branch_bits (and_member p more) c x =
        omega (arith, length-append (bits P p x.0.inner) (branch_bits P more x.1), length-bits p c.0 x.0.inner, length-branch_bits more c.1 x.1)

    pub length-turn_bits : (members : Processes) → EachReadsNoTarget members → (x : TurnCells members) → length (turn_bits P members x) ≡ turn_size P members
    length-turn_bits no_members c x = refl
    length-turn_bits (and_member p no_members) c x = length-bits p c.0 x
    length-turn_bits (and_member p (and_member q more)) c x =
        omega (
          arith,
          length-append (bits P p x.member.inner) (turn_bits P (and_member q more) x.later),
          length-bits p c.0 x.member.inner,
          length-turn_bits (and_member q more) c.1 x.later,
        )

  mutual
    pub place_lt : (p : Process) → ReadsNoTarget p → (s : Spot p) → IsFine p s → place p s < size_of P p
    place_lt skipping c of_skip f = omega arith
    place_lt (sending chan at e) c (of_send done) f = omega arith
    place_lt (sending chan at e) c (of_send (gate i one)) f = omega (arith, rail_place_lt i (gate_count e) one f, count_doubled e)
    place_lt (in_turn members) c (in_members s) f = turn_place_lt members c s f
    place_lt (repeating p) c of_loop f = omega arith
    place_lt (repeating p) c ask f = omega arith
    place_lt (repeating p) c (in_body s) f = omega (arith, place_lt p c s f)
    place_lt (assigning z at e) c (of_assign done) f = omega (arith, plain_size z e c)
    place_lt (assigning z at e) c (of_assign (gate i one)) f = omega (arith, rail_place_lt i (gate_count e) one f, count_doubled e, plain_size z e c)
    place_lt (receiving chan at z to) c (of_receive heard) f = omega arith
    place_lt (receiving chan at z to) c (of_receive stored) f = omega arith
    place_lt (receiving chan at z to) c (of_receive (taking i one)) f = omega (arith, rail_place_lt i (channel_width P.channels chan) one f)
    place_lt (side_by_side members) c (of_branch s) f = omega (arith, branch_place_lt members c s f)
    place_lt (side_by_side members) c (joint k) f = omega (arith, f, joint_count_is (member_count members))
    place_lt (choosing false choices) c (of_core s) f = omega (arith, own_place_lt s)
    place_lt (choosing false choices) c (of_guard s) f = omega (arith, guard_place_lt choices s f)
    place_lt (choosing false choices) c (of_choice s) f = omega (arith, choice_place_lt choices c s f)
    place_lt (choosing true choices) c (of_core s) f = omega (arith, again_place_lt s)
    place_lt (choosing true choices) c (of_guard s) f = omega (arith, guard_place_lt choices s f)
    place_lt (choosing true choices) c (of_choice s) f = omega (arith, choice_place_lt choices c s f)
    place_lt (choosing true choices) c (of_round s) f = omega (arith, round_place_lt (choice_count choices) s)

    pub choice_place_lt : (choices : Choices) → ChoicesReadNoTarget choices → (s : ChoiceSpot choices) → IsFineChoice choices s
        → choice_place choices s < bodies_size P choices
    choice_place_lt no_choices c s f = elim s [ ]
    choice_place_lt (and_choice g p more) c (this_choice s) f = omega (arith, place_lt p c.0 s f)
    choice_place_lt (and_choice g p more) c (other_choice s) f = omega (arith, choice_place_lt more c.1 s f)

    pub branch_place_lt : (members : Processes) → EachReadsNoTarget members → (s : BranchSpot members) → IsFineBranch members s
        → branch_place members s < branches_size P members
    branch_place_lt no_members c s f = elim s [ ]
    branch_place_lt (and_member p more) c (in_this child) f = omega arith
    branch_place_lt (and_member p more) c (in_this latch) f = omega arith
    branch_place_lt (and_member p more) c (in_this next) f = omega arith
    branch_place_lt (and_member p more) c (in_this (inner s)) f = omega (arith, place_lt p c.0 s f)
    branch_place_lt (and_member p more) c (in_others s) f = omega (arith, branch_place_lt more c.1 s f)

    pub turn_place_lt : (members : Processes) → EachReadsNoTarget members → (s : TurnSpot members) → IsFineTurn members s →
        turn_place members s < turn_size P members
    turn_place_lt no_members c s f = elim s [ ]
    turn_place_lt (and_member p no_members) c (in_last s) f = place_lt p c.0 s f
    turn_place_lt (and_member p (and_member q more)) c (in_member child) f = omega arith
    turn_place_lt (and_member p (and_member q more)) c (in_member latch) f = omega arith
    turn_place_lt (and_member p (and_member q more)) c (in_member next) f = omega arith
    turn_place_lt (and_member p (and_member q more)) c (in_member (inner s)) f = omega (arith, place_lt p c.0 s f)
    turn_place_lt (and_member p (and_member q more)) c (in_later s) f = omega (arith, turn_place_lt (and_member q more) c.1 s f)

  -- a rail among pairs
  pub rail_at_place : (n : ℕ) (x : Pairs n) (i : ℕ) (one : Bool) → i < n → (y : Bool)
      → set (pair_bits n x) (rail_place i one) (not (get_or (pair_bits n x) (rail_place i one) false)) ≡ pair_bits n (turned_pairs n x i one)
  rail_at_place zero x i one h y = absurd (omega arith)
  rail_at_place (suc n) x zero true h y = refl
  rail_at_place (suc n) x zero false h y = refl
  rail_at_place (suc n) x (suc i) one h y = ap (λ l. x.0.t ∷ x.0.f ∷ l) (rail_at_place n x.1 i one (omega arith) y)

  turned_guard_is : (choices : Choices) (x : GuardCells choices) (s : GuardSpot choices) → IsFineGuard s
      → set (guard_bits choices x) (guard_place s) (not (get_or (guard_bits choices x) (guard_place s) false)) ≡ guard_bits choices (turned_guards choices x s)
  turned_guard_is (and_choice g p more) x (this_gate i one) f =
      let a = pair_bits (gate_count g) x.0 in
      let b = guard_bits more x.1 in
      set_first a b (rail_place i one) (omega (arith, rail_place_lt i (gate_count g) one f, length-pair_bits (gate_count g) x.0))
      ∙ ap (λ l. l ++ b) (rail_at_place (gate_count g) x.0 i one f true)
  turned_guard_is (and_choice g p more) x (other_gate s) f =
      let a = pair_bits (gate_count g) x.0 in
      let b = guard_bits more x.1 in
      let long : length a ≡ formula_size g = omega (arith, length-pair_bits (gate_count g) x.0, count_doubled g) in
      set_second a b (formula_size g) (guard_place s) long ∙ ap (λ l. a ++ l) (turned_guard_is more x.1 s f)
  turned_guard_is no_choices x s f = elim s [ ]

  -- a node flipped over in the list is the node flipped over in the tree
  mutual
    pub turned_is : (p : Process) → ReadsNoTarget p → (x : Cells p) (s : Spot p) → IsFine p s
        → set (bits P p x) (place p s) (not (get_or (bits P p x) (place p s) false)) ≡ bits P p (flipped p x s)
    turned_is skipping c x of_skip f = refl
    turned_is (sending chan at e) c x (of_send done) f = refl
    turned_is (sending chan at e) c x (of_send (gate i one)) f = ap (λ l. x.answer ∷ l) (rail_at_place (gate_count e) x.gates i one f true)
    turned_is (in_turn members) c x (in_members s) f = turned_turn_is members c x s f
    turned_is (repeating p) c x of_loop f = refl
    turned_is (repeating p) c x ask f = refl
    turned_is (repeating p) c x (in_body s) f = ap (λ l. x.answer ∷ x.ask ∷ l) (turned_is p c x.inner s f)
    turned_is (assigning z at e) c x (of_assign done) f = refl
    turned_is (assigning z at e) c x (of_assign (gate i one)) f = ap (λ l. x.answer ∷ l) (rail_at_place (gate_count e) x.gates i one f true)
    turned_is (receiving chan at z to) c x (of_receive heard) f = refl
    turned_is (receiving chan at z to) c x (of_receive stored) f = refl
    turned_is (receiving chan at z to) c x (of_receive (taking i one)) f = ap (λ l. x.answer ∷ x.kept ∷ l)
        (rail_turned_at (channel_width P.channels chan) x.taken i one f)
    turned_is (side_by_side members) c x (of_branch s) f =
        let b = tree_bits (joint_count (member_count members)) x.tree in
        set_first (branch_bits P members x.branches) b (branch_place members s)
        (omega (arith, branch_place_lt members c s f, length-branch_bits members c x.branches))
        ∙ ap (λ l. l ++ b) (turned_branch_is members c x.branches s f)
    turned_is (side_by_side members) c x (joint k) f =
        let a = branch_bits P members x.branches in
        set_second a (tree_bits (joint_count (member_count members)) x.tree) (branches_size P members) k (length-branch_bits members c x.branches)
        ∙ ap (λ l. a ++ l) (tree_turned (joint_count (member_count members)) x.tree k f)
    turned_is (choosing false choices) c x (of_core s) f =
        let rest = guard_bits choices x.guards ++ choice_bits P choices x.branches in
        set_first (own_list x) rest (own_place s) (omega (arith, own_place_lt s, length-own_list x))
        ∙ (ap (λ l. l ++ rest) (own_turned_is x s)
        ∙ (ap (λ g. own_list (turned_own x s) ++ (guard_bits choices g ++ choice_bits P choices x.branches)) (sym (own_guards x s))
        ∙ ap (λ b. own_list (turned_own x s) ++ (guard_bits choices (turned_own x s).guards ++ choice_bits P choices b)) (sym (own_branches x s))))
    turned_is (choosing false choices) c x (of_guard s) f =
        let a = guard_bits choices x.guards in
        let b = choice_bits P choices x.branches in
        set_second (own_list x) (a ++ b) (3 + (choice_count choices + choice_count choices)) (guard_place s) (length-own_list x)
        ∙ ap (λ l. own_list x ++ l) (set_first a b (guard_place s) (omega (arith, guard_place_lt choices s f, length-guard_bits choices x.guards))
        ∙ ap (λ l. l ++ b) (turned_guard_is choices x.guards s f))
    turned_is (choosing false choices) c x (of_choice s) f =
        let a = guard_bits choices x.guards in
        let b = choice_bits P choices x.branches in
        set_second (own_list x) (a ++ b) (3 + (choice_count choices + choice_count choices)) (guards_size choices + choice_place choices s) (length-own_list x)
        ∙ ap (λ l. own_list x ++ l) (set_second a b (guards_size choices) (choice_place choices s) (length-guard_bits choices x.guards)
        ∙ ap (λ l. a ++ l) (turned_choice_is choices c x.branches s f))
    turned_is (choosing true choices) c x (of_core s) f =
        let rest = guard_bits choices x.core.guards ++ choice_bits P choices x.core.branches in
        set_first (again_list x) rest (again_place s) (omega (arith, again_place_lt s, length-again_list x))
        ∙ (ap (λ l. l ++ rest) (again_turned_is x s)
        ∙ (ap (λ g. again_list (record x { core = turned_own x.core s }) ++ (guard_bits choices g ++ choice_bits P choices x.core.branches))
        (sym (own_guards x.core s))
        ∙ ap (λ b. again_list (record x { core = turned_own x.core s }) ++ (guard_bits choices (turned_own x.core s).guards ++ choice_bits P choices b))
        (sym (own_branches x.core s))))
    turned_is (choosing true choices) c x (of_guard s) f =
        let a = guard_bits choices x.core.guards in
        let b = choice_bits P choices x.core.branches in
        set_second (again_list x) (a ++ b) (6 + (choice_count choices + choice_count choices)) (guard_place s) (length-again_list x)
        ∙ ap (λ l. again_list x ++ l) (set_first a b (guard_place s) (omega (arith, guard_place_lt choices s f, length-guard_bits choices x.core.guards))
        ∙ ap (λ l. l ++ b) (turned_guard_is choices x.core.guards s f))
    turned_is (choosing true choices) c x (of_choice s) f =
        let a = guard_bits choices x.core.guards in
        let b = choice_bits P choices x.core.branches in
        set_second (again_list x) (a ++ b) (6 + (choice_count choices + choice_count choices)) (guards_size choices + choice_place choices s)
        (length-again_list x)
        ∙ ap (λ l. again_list x ++ l) (set_second a b (guards_size choices) (choice_place choices s) (length-guard_bits choices x.core.guards)
        ∙ ap (λ l. a ++ l) (turned_choice_is choices c x.core.branches s f))
    turned_is (choosing true choices) c x (of_round s) f =
        let rest = guard_bits choices x.core.guards ++ choice_bits P choices x.core.branches in
        set_first (again_list x) rest (round_place s) (omega (arith, round_place_lt (choice_count choices) s, length-again_list x))
        ∙ (ap (λ l. l ++ rest) (round_turned_is x s)
        ∙ ap (λ z. again_list (turned_turning x s) ++ (guard_bits choices z.guards ++ choice_bits P choices z.branches)) (sym (round_core x s)))

    pub turned_choice_is : (choices : Choices) → ChoicesReadNoTarget choices → (x : ChoiceCells choices) (s : ChoiceSpot choices) → IsFineChoice choices s
        → set (choice_bits P choices x) (choice_place choices s) (not (get_or (choice_bits P choices x) (choice_place choices s) false))
        ≡ choice_bits P choices (turned_choice choices x s)
    turned_choice_is no_choices c x s f = elim s [ ]
    turned_choice_is (and_choice g p more) c x (this_choice s) f =
        let a = bits P p x.0 in
        let b = choice_bits P more x.1 in
        set_first a b (place p s) (omega (arith, place_lt p c.0 s f, length-bits p c.0 x.0)) ∙ ap (λ l. l ++ b) (turned_is p c.0 x.0 s f)
    turned_choice_is (and_choice g p more) c x (other_choice s) f =
        let a = bits P p x.0 in
        let b = choice_bits P more x.1 in
        set_second a b (size_of P p) (choice_place more s) (length-bits p c.0 x.0) ∙ ap (λ l. a ++ l) (turned_choice_is more c.1 x.1 s f)

    pub turned_branch_is : (members : Processes) → EachReadsNoTarget members → (x : BranchCells members) (s : BranchSpot members) → IsFineBranch members s
        → set (branch_bits P members x) (branch_place members s) (not (get_or (branch_bits P members x) (branch_place members s) false)) ≡ branch_bits P members
        (turned_branches members x s)
    turned_branch_is no_members c x s f = elim s [ ]
    turned_branch_is (and_member p more) c x (in_this child) f = refl
    turned_branch_is (and_member p more) c x (in_this latch) f = refl
    turned_branch_is (and_member p more) c x (in_this next) f = refl
    turned_branch_is (and_member p more) c x (in_this (inner s)) f =
        let a = bits P p x.0.inner in
        let b = branch_bits P more x.1 in
        ap (λ l. x.0.child ∷ x.0.latch ∷ x.0.next ∷ l)
        (set_first a b (place p s) (omega (arith, place_lt p c.0 s f, length-bits p c.0 x.0.inner)) ∙ ap (λ l. l ++ b) (turned_is p c.0 x.0.inner s f))
    turned_branch_is (and_member p more) c x (in_others s) f =
        let a = bits P p x.0.inner in
        let b = branch_bits P more x.1 in
        ap (λ l. x.0.child ∷ x.0.latch ∷ x.0.next ∷ l)
        (set_second a b (size_of P p) (branch_place more s) (length-bits p c.0 x.0.inner) ∙ ap (λ l. a ++ l) (turned_branch_is more c.1 x.1 s f))

    pub turned_turn_is : (members : Processes) → EachReadsNoTarget members → (x : TurnCells members) (s : TurnSpot members) → IsFineTurn members s
        → set (turn_bits P members x) (turn_place members s) (not (get_or (turn_bits P members x) (turn_place members s) false)) ≡ turn_bits P members
        (turned_turn members x s)
    turned_turn_is no_members c x s f = elim s [ ]
    turned_turn_is (and_member p no_members) c x (in_last s) f = turned_is p c.0 x s f
    turned_turn_is (and_member p (and_member q more)) c x (in_member child) f = refl
    turned_turn_is (and_member p (and_member q more)) c x (in_member latch) f = refl
    turned_turn_is (and_member p (and_member q more)) c x (in_member next) f = refl
    turned_turn_is (and_member p (and_member q more)) c x (in_member (inner s)) f =
        let a = bits P p x.member.inner in
        let b = turn_bits P (and_member q more) x.later in
        ap (λ l. x.member.child ∷ x.member.latch ∷ x.member.next ∷ l)
        (set_first a b (place p s) (omega (arith, place_lt p c.0 s f, length-bits p c.0 x.member.inner))
        ∙ ap (λ l. l ++ b) (turned_is p c.0 x.member.inner s f))
    turned_turn_is (and_member p (and_member q more)) c x (in_later s) f =
        let a = bits P p x.member.inner in
        let b = turn_bits P (and_member q more) x.later in
        ap (λ l. x.member.child ∷ x.member.latch ∷ x.member.next ∷ l)
        (set_second a b (size_of P p) (turn_place (and_member q more) s) (length-bits p c.0 x.member.inner)
        ∙ ap (λ l. a ++ l) (turned_turn_is (and_member q more) c.1 x.later s f))

  -- each node of the list is a node of the tree
  pub record AtPlace (p : Process) (n : ℕ) : Type 0 where
    pub spot : Spot p
    pub fine : IsFine p spot
    pub is : place p spot ≡ n

  record AtGuardPlace (choices : Choices) (n : ℕ) : Type 0 where
    pub spot : GuardSpot choices
    pub fine : IsFineGuard spot
    pub is : guard_place spot ≡ n

  guard_spot_of : (choices : Choices) (n : ℕ) → n < guards_size choices → AtGuardPlace choices n
  guard_spot_of no_choices n h = absurd (omega arith)
  guard_spot_of (and_choice g p more) n h =
      ⊎_elim
      (λ (lt : n < formula_size g).
      let r = rail_of (gate_count g) n (omega (arith, lt, count_doubled g)) in
      let here : AtGuardPlace (and_choice g p more) n = record { spot = this_gate r.bit r.one; fine = r.below; is = r.is } in
      here)
      (λ (le : formula_size g ≤ n).
      let r = guard_spot_of more (n - formula_size g) (omega arith) in
      let here : AtGuardPlace (and_choice g p more) n = record { spot = other_gate r.spot; fine = r.fine; is = omega (arith, r.is) } in
      here)
      (cases_lt n (formula_size g))

  again_spot : (choices : Choices) (n : ℕ) → AtAgain (choice_count choices) n → AtPlace (choosing true choices) n
  again_spot choices n (a_round s e) = record { spot = of_round s; fine = tt; is = e }
  again_spot choices n (an_own s e) = record { spot = of_core s; fine = tt; is = e }

  pub record AtChoicePlace (choices : Choices) (n : ℕ) : Type 0 where
    pub spot : ChoiceSpot choices
    pub fine : IsFineChoice choices spot
    pub is : choice_place choices spot ≡ n

  pub record AtBranchPlace (members : Processes) (n : ℕ) : Type 0 where
    pub spot : BranchSpot members
    pub fine : IsFineBranch members spot
    pub is : branch_place members spot ≡ n

  pub record AtTurnPlace (members : Processes) (n : ℕ) : Type 0 where
    pub spot : TurnSpot members
    pub fine : IsFineTurn members spot
    pub is : turn_place members spot ≡ n

  mutual
    pub spot_of : (p : Process) → ReadsNoTarget p → (n : ℕ) → n < size_of P p → AtPlace p n
    spot_of skipping c zero h = record { spot = of_skip; fine = tt; is = refl }
    spot_of skipping c (suc n) h = absurd (omega arith)
    spot_of (sending chan at e) c zero h = record { spot = of_send done; fine = tt; is = refl }
    spot_of (sending chan at e) c (suc n) h =
        let r = rail_of (gate_count e) n (omega (arith, h, count_doubled e)) in record { spot = of_send (gate r.bit r.one); fine = r.below; is = ap suc r.is }
    spot_of (in_turn members) c n h = let r = turn_spot_of members c n h in record { spot = in_members r.spot; fine = r.fine; is = r.is }
    spot_of (repeating p) c zero h = record { spot = of_loop; fine = tt; is = refl }
    spot_of (repeating p) c (suc zero) h = record { spot = ask; fine = tt; is = refl }
    spot_of (repeating p) c (suc (suc n)) h = let r = spot_of p c n (omega arith) in
        record { spot = in_body r.spot; fine = r.fine; is = ap (λ m. suc (suc m)) r.is }
    spot_of (assigning z at e) c zero h = record { spot = of_assign done; fine = tt; is = refl }
    spot_of (assigning z at e) c (suc n) h =
        let r = rail_of (gate_count e) n (omega (arith, h, count_doubled e, plain_size z e c)) in
        record { spot = of_assign (gate r.bit r.one); fine = r.below; is = ap suc r.is }
    spot_of (receiving chan at z to) c zero h = record { spot = of_receive heard; fine = tt; is = refl }
    spot_of (receiving chan at z to) c (suc zero) h = record { spot = of_receive stored; fine = tt; is = refl }
    spot_of (receiving chan at z to) c (suc (suc n)) h =
        let r = rail_of (channel_width P.channels chan) n (omega (arith, h)) in
        record { spot = of_receive (taking r.bit r.one); fine = r.below; is = ap (λ m. suc (suc m)) r.is }
    spot_of (side_by_side members) c n h =
        ⊎_elim
        (λ (lt : n < branches_size P members).
        let r = branch_spot_of members c n lt in
        let here : AtPlace (side_by_side members) n = record { spot = of_branch r.spot; fine = r.fine; is = r.is } in
        here)
        (λ (le : branches_size P members ≤ n).
        let here : AtPlace (side_by_side members) n = record {
          spot = joint (n - branches_size P members);
          fine = omega
              (arith, joint_count_is (member_count members));
          is = omega arith;
        } in
        here)
        (cases_lt n (branches_size P members))
    spot_of (choosing false choices) c n h =
        let m = 3 + (choice_count choices + choice_count choices) in
        ⊎_elim
        (λ (lt : n < m).
        let r = own_spot_of (choice_count choices) n lt in
        let here : AtPlace (choosing false choices) n = record { spot = of_core r.spot; fine = tt; is = r.is } in
        here)
        (λ (le : m ≤ n).
        ⊎_elim
        (λ (lt : n - m < guards_size choices).
        let r = guard_spot_of choices (n - m) lt in
        let here : AtPlace (choosing false choices) n = record { spot = of_guard r.spot; fine = r.fine; is = omega (arith, r.is, le) } in
        here)
        (λ (behind : guards_size choices ≤ n - m).
        let r = choice_spot_of choices c (n - m - guards_size choices) (omega (arith, h, le, behind)) in
        let here : AtPlace (choosing false choices) n = record { spot = of_choice r.spot; fine = r.fine; is = omega (arith, r.is, le, behind) } in
        here)
        (cases_lt (n - m) (guards_size choices)))
        (cases_lt n m)
    spot_of (choosing true choices) c n h =
        let m = 6 + (choice_count choices + choice_count choices) in
        ⊎_elim
        (λ (lt : n < m). again_spot choices n (again_spot_of (choice_count choices) n lt))
        (λ (le : m ≤ n).
        ⊎_elim
        (λ (lt : n - m < guards_size choices).
        let r = guard_spot_of choices (n - m) lt in
        let here : AtPlace (choosing true choices) n = record { spot = of_guard r.spot; fine = r.fine; is = omega (arith, r.is, le) } in
        here)
        (λ (behind : guards_size choices ≤ n - m).
        let r = choice_spot_of choices c (n - m - guards_size choices) (omega (arith, h, le, behind)) in
        let here : AtPlace (choosing true choices) n = record { spot = of_choice r.spot; fine = r.fine; is = omega (arith, r.is, le, behind) } in
        here)
        (cases_lt (n - m) (guards_size choices)))
        (cases_lt n m)

    pub choice_spot_of : (choices : Choices) → ChoicesReadNoTarget choices → (n : ℕ) → n < bodies_size P choices → AtChoicePlace choices n
    choice_spot_of no_choices c n h = absurd (omega arith)
    choice_spot_of (and_choice g p more) c n h =
        ⊎_elim
        (λ (lt : n < size_of P p).
        let r = spot_of p c.0 n lt in
        let here : AtChoicePlace (and_choice g p more) n = record { spot = this_choice r.spot; fine = r.fine; is = r.is } in
        here)
        (λ (le : size_of P p ≤ n).
        let r = choice_spot_of more c.1 (n - size_of P p) (omega arith) in
        let here : AtChoicePlace (and_choice g p more) n = record { spot = other_choice r.spot; fine = r.fine; is = omega (arith, r.is) } in
        here)
        (cases_lt n (size_of P p))

    pub branch_spot_of : (members : Processes) → EachReadsNoTarget members → (n : ℕ) → n < branches_size P members → AtBranchPlace members n
    branch_spot_of no_members c n h = absurd (omega arith)
    branch_spot_of (and_member p more) c zero h = record { spot = in_this child; fine = tt; is = refl }
    branch_spot_of (and_member p more) c (suc zero) h = record { spot = in_this latch; fine = tt; is = refl }
    branch_spot_of (and_member p more) c (suc (suc zero)) h = record { spot = in_this next; fine = tt; is = refl }
    branch_spot_of (and_member p more) c (suc (suc (suc n))) h =
        ⊎_elim
        (λ (lt : n < size_of P p).
        let r = spot_of p c.0 n lt in
        let here : AtBranchPlace (and_member p more) (suc (suc (suc n))) =
        record { spot = in_this (inner r.spot); fine = r.fine; is = ap (λ m. suc (suc (suc m))) r.is } in
        here)
        (λ (le : size_of P p ≤ n).
        let r = branch_spot_of more c.1 (n - size_of P p) (omega arith) in
        let here : AtBranchPlace (and_member p more) (suc (suc (suc n))) = record { spot = in_others r.spot; fine = r.fine; is = omega (arith, r.is) } in
        here)
        (cases_lt n (size_of P p))

    pub turn_spot_of : (members : Processes) → EachReadsNoTarget members → (n : ℕ) → n < turn_size P members → AtTurnPlace members n
    turn_spot_of no_members c n h = absurd (omega arith)
    turn_spot_of (and_member p no_members) c n h = let r = spot_of p c.0 n h in record { spot = in_last r.spot; fine = r.fine; is = r.is }
    turn_spot_of (and_member p (and_member q more)) c zero h = record { spot = in_member child; fine = tt; is = refl }
    turn_spot_of (and_member p (and_member q more)) c (suc zero) h = record { spot = in_member latch; fine = tt; is = refl }
    turn_spot_of (and_member p (and_member q more)) c (suc (suc zero)) h = record { spot = in_member next; fine = tt; is = refl }
    turn_spot_of (and_member p (and_member q more)) c (suc (suc (suc n))) h =
        ⊎_elim
        (λ (lt : n < size_of P p).
        let r = spot_of p c.0 n lt in
        let here : AtTurnPlace (and_member p (and_member q more)) (suc (suc (suc n))) =
        record { spot = in_member (inner r.spot); fine = r.fine; is = ap (λ m. suc (suc (suc m))) r.is } in
        here)
        (λ (le : size_of P p ≤ n).
        let r = turn_spot_of (and_member q more) c.1 (n - size_of P p) (omega arith) in
        let here : AtTurnPlace (and_member p (and_member q more)) (suc (suc (suc n))) =
        record { spot = in_later r.spot; fine = r.fine; is = omega (arith, r.is) } in
        here)
        (cases_lt n (size_of P p))

  -- at first all are low
  pub low_pair_bits : (n : ℕ) → pair_bits n (low_pairs n) ≡ replicate (2 * n) false
  low_pair_bits zero = refl
  low_pair_bits (suc n) =
      let e : suc (suc (2 * n)) ≡ 2 * suc n = omega arith in
      ap (λ l. false ∷ false ∷ l) (low_pair_bits n) ∙ ap (λ m. replicate m false) e

  low_guard_bits : (choices : Choices) → guard_bits choices (low_guards choices) ≡ replicate (guards_size choices) false
  low_guard_bits no_choices = refl
  low_guard_bits (and_choice g p more) =
      let m : 2 * gate_count g + guards_size more ≡ formula_size g + guards_size more = omega (arith, count_doubled g) in
      ap (λ l. l ++ guard_bits more (low_guards more)) (low_pair_bits (gate_count g))
      ∙ (ap (λ l. replicate (2 * gate_count g) false ++ l) (low_guard_bits more)
      ∙ (replicate-append-replicate (2 * gate_count g) (guards_size more) false ∙ ap (λ k. replicate k false) m))

  low_behind : (choices : Choices) → choice_bits P choices (low_choices choices) ≡ replicate (bodies_size P choices) false
      → guard_bits choices (low_guards choices) ++ choice_bits P choices (low_choices choices)
      ≡ replicate (guards_size choices + bodies_size P choices) false
  low_behind choices e =
      ap (λ l. l ++ choice_bits P choices (low_choices choices)) (low_guard_bits choices)
      ∙ (ap (λ l. replicate (guards_size choices) false ++ l) e ∙ replicate-append-replicate (guards_size choices) (bodies_size P choices) false)

  mutual
    pub low_bits : (p : Process) → ReadsNoTarget p → bits P p (low p) ≡ replicate (size_of P p) false
    low_bits skipping c = refl
    low_bits (sending chan at e) c =
        let m : suc (2 * gate_count e) ≡ 1 + formula_size e = omega (arith, count_doubled e) in
        ap (λ l. false ∷ l) (low_pair_bits (gate_count e)) ∙ ap (λ n. replicate n false) m
    low_bits (in_turn members) c = low_turn_bits members c
    low_bits (repeating p) c =
        let m : suc (suc (size_of P p)) ≡ 2 + size_of P p = omega arith in
        ap (λ l. false ∷ false ∷ l) (low_bits p c) ∙ ap (λ n. replicate n false) m
    low_bits (assigning z at e) c =
        let m : suc (2 * gate_count e) ≡ assign_size P z e = omega (arith, count_doubled e, plain_size z e c) in
        ap (λ l. false ∷ l) (low_pair_bits (gate_count e)) ∙ ap (λ n. replicate n false) m
    low_bits (receiving chan at z to) c =
        let m : suc (suc (2 * channel_width P.channels chan)) ≡ 2 + 2 * channel_width P.channels chan = omega arith in
        ap (λ l. false ∷ false ∷ l) (low_rail_bits (channel_width P.channels chan)) ∙ ap (λ n. replicate n false) m
    low_bits (side_by_side members) c =
        let n = joint_count (member_count members) in
        let m : branches_size P members + joint_count (member_count members) ≡ branches_size P members + (member_count members - 1) = omega
        (arith, joint_count_is (member_count members)) in
        ap (λ l. l ++ tree_bits n (low_tree n)) (low_branch_bits members c)
        ∙ (ap (λ l. replicate (branches_size P members) false ++ l) (tree_low n)
        ∙ (replicate-append-replicate (branches_size P members) n false ∙ ap (λ k. replicate k false) m))
    low_bits (choosing false choices) c =
        let n = choice_count choices in
        let m : suc (suc (suc (n + n))) + (guards_size choices + bodies_size P choices) ≡ 3 + 2 * n + guards_size choices + bodies_size P choices =
        omega arith in
        ap (λ l. (false ∷ false ∷ false ∷ l) ++ (guard_bits choices (low_guards choices) ++ choice_bits P choices (low_choices choices))) (low_lists n)
        ∙ (ap (λ l. (false ∷ false ∷ false ∷ replicate (n + n) false) ++ l) (low_behind choices (low_choice_bits choices c))
        ∙ (replicate-append-replicate (suc (suc (suc (n + n)))) (guards_size choices + bodies_size P choices) false ∙ ap (λ k. replicate k false) m))
    low_bits (choosing true choices) c =
        let n = choice_count choices in
        let m : suc (suc (suc (suc (suc (suc (n + n)))))) + (guards_size choices + bodies_size P choices)
        ≡ 6 + 2 * n + guards_size choices + bodies_size P choices = omega arith in
        ap (λ l. (false ∷ false ∷ false ∷ false ∷ false ∷ false ∷ l) ++ (guard_bits choices (low_guards choices) ++ choice_bits P choices
        (low_choices choices)))
        (low_lists n)
        ∙ (ap (λ l. (false ∷ false ∷ false ∷ false ∷ false ∷ false ∷ replicate (n + n) false) ++ l) (low_behind choices (low_choice_bits choices c))
        ∙ (replicate-append-replicate (suc (suc (suc (suc (suc (suc (n + n))))))) (guards_size choices + bodies_size P choices) false
        ∙ ap (λ k. replicate k false) m))

    pub low_choice_bits : (choices : Choices) → ChoicesReadNoTarget choices →
        choice_bits P choices (low_choices choices) ≡ replicate (bodies_size P choices) false
    low_choice_bits no_choices c = refl
    low_choice_bits (and_choice g p more) c =
        ap (λ l. l ++ choice_bits P more (low_choices more)) (low_bits p c.0)
        ∙ (ap (λ l. replicate (size_of P p) false ++ l) (low_choice_bits more c.1) ∙ replicate-append-replicate (size_of P p) (bodies_size P more) false)

    pub low_branch_bits : (members : Processes) → EachReadsNoTarget members →
        branch_bits P members (low_branches members) ≡ replicate (branches_size P members) false
    low_branch_bits no_members c = refl
    low_branch_bits (and_member p more) c =
        let n = branches_size P more in
        let m : suc (suc (suc (size_of P p + n))) ≡ 3 + size_of P p + n = omega arith in
        ap (λ l. false ∷ false ∷ false ∷ l)
        (ap (λ l. l ++ branch_bits P more (low_branches more)) (low_bits p c.0)
        ∙ (ap (λ l. replicate (size_of P p) false ++ l) (low_branch_bits more c.1) ∙ replicate-append-replicate (size_of P p) n false))
        ∙ ap (λ k. replicate k false) m

    pub low_turn_bits : (members : Processes) → EachReadsNoTarget members → turn_bits P members (low_turn members) ≡ replicate (turn_size P members) false
    low_turn_bits no_members c = refl
    low_turn_bits (and_member p no_members) c = low_bits p c.0
    low_turn_bits (and_member p (and_member q more)) c =
        let n = turn_size P (and_member q more) in
        let m : suc (suc (suc (size_of P p + n))) ≡ 3 + size_of P p + n = omega arith in
        ap (λ l. false ∷ false ∷ false ∷ l)
        (ap (λ l. l ++ turn_bits P (and_member q more) (low_turn (and_member q more))) (low_bits p c.0)
        ∙ (ap (λ l. replicate (size_of P p) false ++ l) (low_turn_bits (and_member q more) c.1) ∙ replicate-append-replicate (size_of P p) n false))
        ∙ ap (λ k. replicate k false) m
