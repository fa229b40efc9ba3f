-- Two nodes of a circuit of cells have two numbers in its net.
--
-- P: the program; p, q, more: statements; c: that no assignment reads its own target; s, q: spots; n, m: nodes; f, g: that they are nodes of the net;
-- z: that their numbers are the same.
use Rattle.std.proofs.Common.{◌≡◌, ℕ, suc, ◌+◌, ◌<◌, ◌≤◌, ◌⊎◌, inl, inr, Bool, true, false, length, refl, sym, ap, ◌∙◌, subst, arith}
use Rattle.width_check.specs.Processes.{Process, skipping, assigning, sending, receiving, in_turn, side_by_side, choosing, repeating, Processes, no_members, and_member, Choices, no_choices, and_choice, choice_count, TypedProgram}
use Rattle.width_check.specs.Typing.{channel_width, var_width}
use Rattle.chp_meaning.specs.Halves.{ReadsNoTarget, EachReadsNoTarget, ChoicesReadNoTarget}
use Rattle.handshake_expand.specs.Layout.{wires_before, root_request, size_of, var_from}
use Rattle.function_blocks.proofs.PartSizes.{count_doubled}
use Rattle.circuit_places.specs.Heads.{Index, top, under}
use Rattle.circuit_places.specs.Cores.{OwnSpot, of_joined, of_ask, of_any, of_latch, of_start, RoundSpot, of_answer, of_turn, of_leave}
use Rattle.circuit_places.specs.Lines.{of_channel, of_var}
use Rattle.circuit_places.specs.Circuit.{gate_count, GuardSpot, this_gate, other_gate, done, gate, heard, stored, taking, GuardedSpot, child, latch, next, inner, Spot, of_skip, of_assign, of_send, of_receive, in_members, of_branch, joint, of_loop, ask, in_body, of_core, of_guard, of_choice, of_round, ChoiceSpot, this_choice, other_choice, BranchSpot, in_this, in_others, TurnSpot, in_last, in_member, in_later}
use Rattle.circuit_places.specs.Whole.{Node, go_node, own_node, rail_node, ack_node, bit_node, wrote_node, joint_node}
use Rattle.net_compose.proofs.Templates.{number_of as index_number}
use Rattle.net_compose.proofs.FlatCore.{number_lt, own_place, own_place_lt, again_place, again_place_lt, round_place, round_place_lt}
use Rattle.net_compose.proofs.FlatCells.{rail_place_lt, guard_place, guard_place_lt, IsFineGuard, place, choice_place, branch_place, turn_place, IsFine, IsFineChoice, IsFineBranch, IsFineTurn, place_lt, branch_place_lt}
use Rattle.net_compose.proofs.FlatWires.{place_same, rail_same, ack_same, rail_no_ack, rail_bounds, ack_bounds}
use Rattle.net_compose.proofs.FlatBlocks.{Part, a_bit, a_put, a_mark, a_joint, offset, IsPart}
use Rattle.net_compose.proofs.FlatNet.{Given, number_of, Fine, part_bounds, same_var, same_part}

-- ---- own nodes of a core
number_same : {n : ℕ} (i j : Index n) → index_number i ≡ index_number j → i ≡ j
number_same top top z = refl
number_same top (under j) z = absurd (omega (arith, z))
number_same (under i) top z = absurd (omega (arith, z))
number_same (under i) (under j) z = ap (λ k. under k) (number_same i j (omega (arith, z)))

own_same : {n : ℕ} (s q : OwnSpot n) → own_place s ≡ own_place q → s ≡ q
own_same of_joined of_joined z = refl
own_same of_joined of_ask z = absurd (omega (arith, z))
own_same of_joined of_any z = absurd (omega (arith, z))
own_same of_joined (of_latch j) z = absurd (omega (arith, z))
own_same of_joined (of_start j) z = absurd (omega (arith, z))
own_same of_ask of_joined z = absurd (omega (arith, z))
own_same of_ask of_ask z = refl
own_same of_ask of_any z = absurd (omega (arith, z))
own_same of_ask (of_latch j) z = absurd (omega (arith, z))
own_same of_ask (of_start j) z = absurd (omega (arith, z))
own_same of_any of_joined z = absurd (omega (arith, z))
own_same of_any of_ask z = absurd (omega (arith, z))
own_same of_any of_any z = refl
own_same of_any (of_latch j) z = absurd (omega (arith, z))
own_same of_any (of_start j) z = absurd (omega (arith, z))
own_same (of_latch i) of_joined z = absurd (omega (arith, z))
own_same (of_latch i) of_ask z = absurd (omega (arith, z))
own_same (of_latch i) of_any z = absurd (omega (arith, z))
own_same (of_latch i) (of_latch j) z = ap (λ k. of_latch k) (number_same i j (omega (arith, z)))
own_same (of_latch i) (of_start j) z = let l = number_lt i in absurd (omega (arith, z, l))
own_same (of_start i) of_joined z = absurd (omega (arith, z))
own_same (of_start i) of_ask z = absurd (omega (arith, z))
own_same (of_start i) of_any z = absurd (omega (arith, z))
own_same (of_start i) (of_latch j) z = let l = number_lt j in absurd (omega (arith, z, l))
own_same (of_start i) (of_start j) z = ap (λ k. of_start k) (number_same i j (omega (arith, z)))

-- those of a repetition's are as far apart, or one more
again_is : {n : ℕ} (s : OwnSpot n) → ((again_place s ≡ 2 + own_place s) × (own_place s < 3)) ⊎ ((again_place s ≡ 3 + own_place s) × (3 ≤ own_place s))
again_is of_joined = inl (omega arith, omega arith)
again_is of_ask = inl (omega arith, omega arith)
again_is of_any = inl (omega arith, omega arith)
again_is (of_latch i) = inr (omega arith, omega arith)
again_is (of_start i) = inr (omega arith, omega arith)

again_same : {n : ℕ} (s q : OwnSpot n) → again_place s ≡ again_place q → s ≡ q
again_same s q z = own_same s q (by (again_is s) (again_is q))
  where
    by : ((again_place s ≡ 2 + own_place s) × (own_place s < 3)) ⊎ ((again_place s ≡ 3 + own_place s) × (3 ≤ own_place s))
        → ((again_place q ≡ 2 + own_place q) × (own_place q < 3)) ⊎ ((again_place q ≡ 3 + own_place q) × (3 ≤ own_place q)) → own_place s ≡ own_place q
    by (inl (a, l)) (inl (b, k)) = omega (arith, z, a, b)
    by (inl (a, l)) (inr (b, k)) = absurd (omega (arith, z, a, b, l, k))
    by (inr (a, l)) (inl (b, k)) = absurd (omega (arith, z, a, b, l, k))
    by (inr (a, l)) (inr (b, k)) = omega (arith, z, a, b)

round_same : (s q : RoundSpot) → round_place s ≡ round_place q → s ≡ q
round_same of_answer of_answer z = refl
round_same of_answer of_turn z = absurd (omega (arith, z))
round_same of_answer of_leave z = absurd (omega (arith, z))
round_same of_turn of_answer z = absurd (omega (arith, z))
round_same of_turn of_turn z = refl
round_same of_turn of_leave z = absurd (omega (arith, z))
round_same of_leave of_answer z = absurd (omega (arith, z))
round_same of_leave of_turn z = absurd (omega (arith, z))
round_same of_leave of_leave z = refl

again_no_round : {n : ℕ} (s : OwnSpot n) (q : RoundSpot) → again_place s ≡ round_place q → ⊥
again_no_round of_joined of_answer z = omega (arith, z)
again_no_round of_joined of_turn z = omega (arith, z)
again_no_round of_joined of_leave z = omega (arith, z)
again_no_round of_ask of_answer z = omega (arith, z)
again_no_round of_ask of_turn z = omega (arith, z)
again_no_round of_ask of_leave z = omega (arith, z)
again_no_round of_any of_answer z = omega (arith, z)
again_no_round of_any of_turn z = omega (arith, z)
again_no_round of_any of_leave z = omega (arith, z)
again_no_round (of_latch i) of_answer z = omega (arith, z)
again_no_round (of_latch i) of_turn z = omega (arith, z)
again_no_round (of_latch i) of_leave z = omega (arith, z)
again_no_round (of_start i) of_answer z = omega (arith, z)
again_no_round (of_start i) of_turn z = omega (arith, z)
again_no_round (of_start i) of_leave z = omega (arith, z)

-- gates of guards
guard_same : (choices : Choices) (s q : GuardSpot choices) → IsFineGuard s → IsFineGuard q → guard_place s ≡ guard_place q → s ≡ q
guard_same (and_choice e p more) (this_gate i one) (this_gate j t) f g z =
    let r = place_same i j one t z in ap (λ k. this_gate k one) r.0 ∙ ap (λ b. this_gate j b) r.1
guard_same (and_choice e p more) (this_gate i one) (other_gate q) f g z =
    let l = rail_place_lt i (gate_count e) one f in let d = count_doubled e in absurd (omega (arith, z, l, d))
guard_same (and_choice e p more) (other_gate s) (this_gate j t) f g z =
    let l = rail_place_lt j (gate_count e) t g in let d = count_doubled e in absurd (omega (arith, z, l, d))
guard_same (and_choice e p more) (other_gate s) (other_gate q) f g z = ap (λ k. other_gate k) (guard_same more s q f g (omega (arith, z)))
guard_same no_choices s q f g z = elim s [ ]

module _ (P : TypedProgram) where
  -- a statement in its Q-element
  abbrev guarded_place : (p : Process) → GuardedSpot p → ℕ
  guarded_place p child = 0
  guarded_place p latch = 1
  guarded_place p next = 2
  guarded_place p (inner s) = suc (suc (suc (place P p s)))

  abbrev GuardedFine : (p : Process) → GuardedSpot p → Type 0
  GuardedFine p (inner s) = IsFine P p s
  GuardedFine p _ = Unit {0}

  guarded_place_lt : (p : Process) → ReadsNoTarget p → (s : GuardedSpot p) → GuardedFine p s → guarded_place p s < 3 + size_of P p
  guarded_place_lt p c child f = omega arith
  guarded_place_lt p c latch f = omega arith
  guarded_place_lt p c next f = omega arith
  guarded_place_lt p c (inner s) f = let l = place_lt P p c s f in omega (arith, l)

  in_branch : (p : Process) (more : Processes) (s : GuardedSpot p) → branch_place P (and_member p more) (in_this s) ≡ guarded_place p s
  in_branch p more child = refl
  in_branch p more latch = refl
  in_branch p more next = refl
  in_branch p more (inner s) = refl

  branch_fine : (p : Process) (more : Processes) (s : GuardedSpot p) → IsFineBranch P (and_member p more) (in_this s) → GuardedFine p s
  branch_fine p more child f = tt
  branch_fine p more latch f = tt
  branch_fine p more next f = tt
  branch_fine p more (inner s) f = f

  in_turns : (p q : Process) (more : Processes) (s : GuardedSpot p) → turn_place P (and_member p (and_member q more)) (in_member s) ≡ guarded_place p s
  in_turns p q more child = refl
  in_turns p q more latch = refl
  in_turns p q more next = refl
  in_turns p q more (inner s) = refl

  turn_fine : (p q : Process) (more : Processes) (s : GuardedSpot p) → IsFineTurn P (and_member p (and_member q more)) (in_member s) → GuardedFine p s
  turn_fine p q more child f = tt
  turn_fine p q more latch f = tt
  turn_fine p q more next f = tt
  turn_fine p q more (inner s) f = f

  mutual
    spot_same : (p : Process) → ReadsNoTarget p → (s q : Spot p) → IsFine P p s → IsFine P p q → place P p s ≡ place P p q → s ≡ q
    spot_same skipping c of_skip of_skip f g z = refl
    spot_same (assigning y at e) c (of_assign done) (of_assign done) f g z = refl
    spot_same (assigning y at e) c (of_assign done) (of_assign (gate j t)) f g z = absurd (omega (arith, z))
    spot_same (assigning y at e) c (of_assign (gate i one)) (of_assign done) f g z = absurd (omega (arith, z))
    spot_same (assigning y at e) c (of_assign (gate i one)) (of_assign (gate j t)) f g z =
        let r = place_same i j one t (omega (arith, z)) in ap (λ k. of_assign (gate k one)) r.0 ∙ ap (λ b. of_assign (gate j b)) r.1
    spot_same (sending k at e) c (of_send done) (of_send done) f g z = refl
    spot_same (sending k at e) c (of_send done) (of_send (gate j t)) f g z = absurd (omega (arith, z))
    spot_same (sending k at e) c (of_send (gate i one)) (of_send done) f g z = absurd (omega (arith, z))
    spot_same (sending k at e) c (of_send (gate i one)) (of_send (gate j t)) f g z =
        let r = place_same i j one t (omega (arith, z)) in ap (λ k. of_send (gate k one)) r.0 ∙ ap (λ b. of_send (gate j b)) r.1
    spot_same (receiving k at y to) c (of_receive heard) (of_receive heard) f g z = refl
    spot_same (receiving k at y to) c (of_receive heard) (of_receive stored) f g z = absurd (omega (arith, z))
    spot_same (receiving k at y to) c (of_receive heard) (of_receive (taking j t)) f g z = absurd (omega (arith, z))
    spot_same (receiving k at y to) c (of_receive stored) (of_receive heard) f g z = absurd (omega (arith, z))
    spot_same (receiving k at y to) c (of_receive stored) (of_receive stored) f g z = refl
    spot_same (receiving k at y to) c (of_receive stored) (of_receive (taking j t)) f g z = absurd (omega (arith, z))
    spot_same (receiving k at y to) c (of_receive (taking i one)) (of_receive heard) f g z = absurd (omega (arith, z))
    spot_same (receiving k at y to) c (of_receive (taking i one)) (of_receive stored) f g z = absurd (omega (arith, z))
    spot_same (receiving k at y to) c (of_receive (taking i one)) (of_receive (taking j t)) f g z =
        let r = place_same i j one t (omega (arith, z)) in ap (λ n. of_receive (taking n one)) r.0 ∙ ap (λ b. of_receive (taking j b)) r.1
    spot_same (in_turn ms) c (in_members s) (in_members q) f g z = ap (λ k. in_members k) (turn_same ms c s q f g z)
    spot_same (side_by_side ms) c (of_branch s) (of_branch q) f g z = ap (λ k. of_branch k) (branch_same ms c s q f g z)
    spot_same (side_by_side ms) c (of_branch s) (joint j) f g z = let l = branch_place_lt P ms c s f in absurd (omega (arith, z, l))
    spot_same (side_by_side ms) c (joint i) (of_branch q) f g z = let l = branch_place_lt P ms c q g in absurd (omega (arith, z, l))
    spot_same (side_by_side ms) c (joint i) (joint j) f g z = let e : i ≡ j = omega (arith, z) in ap (λ k. joint k) e
    spot_same (repeating p) c of_loop of_loop f g z = refl
    spot_same (repeating p) c of_loop ask f g z = absurd (omega (arith, z))
    spot_same (repeating p) c of_loop (in_body q) f g z = absurd (omega (arith, z))
    spot_same (repeating p) c ask of_loop f g z = absurd (omega (arith, z))
    spot_same (repeating p) c ask ask f g z = refl
    spot_same (repeating p) c ask (in_body q) f g z = absurd (omega (arith, z))
    spot_same (repeating p) c (in_body s) of_loop f g z = absurd (omega (arith, z))
    spot_same (repeating p) c (in_body s) ask f g z = absurd (omega (arith, z))
    spot_same (repeating p) c (in_body s) (in_body q) f g z = ap (λ k. in_body k) (spot_same p c s q f g (omega (arith, z)))
    spot_same (choosing false cs) c (of_core s) (of_core q) f g z = ap (λ k. of_core k) (own_same s q z)
    spot_same (choosing false cs) c (of_core s) (of_guard q) f g z = let l = own_place_lt s in absurd (omega (arith, z, l))
    spot_same (choosing false cs) c (of_core s) (of_choice q) f g z = let l = own_place_lt s in absurd (omega (arith, z, l))
    spot_same (choosing false cs) c (of_guard s) (of_core q) f g z = let l = own_place_lt q in absurd (omega (arith, z, l))
    spot_same (choosing false cs) c (of_guard s) (of_guard q) f g z = ap (λ k. of_guard k) (guard_same cs s q f g (omega (arith, z)))
    spot_same (choosing false cs) c (of_guard s) (of_choice q) f g z = let l = guard_place_lt cs s f in absurd (omega (arith, z, l))
    spot_same (choosing false cs) c (of_choice s) (of_core q) f g z = let l = own_place_lt q in absurd (omega (arith, z, l))
    spot_same (choosing false cs) c (of_choice s) (of_guard q) f g z = let l = guard_place_lt cs q g in absurd (omega (arith, z, l))
    spot_same (choosing false cs) c (of_choice s) (of_choice q) f g z = ap (λ k. of_choice k) (choice_same cs c s q f g (omega (arith, z)))
    spot_same (choosing true cs) c (of_core s) (of_core q) f g z = ap (λ k. of_core k) (again_same s q z)
    spot_same (choosing true cs) c (of_core s) (of_guard q) f g z = let l = again_place_lt s in absurd (omega (arith, z, l))
    spot_same (choosing true cs) c (of_core s) (of_choice q) f g z = let l = again_place_lt s in absurd (omega (arith, z, l))
    spot_same (choosing true cs) c (of_core s) (of_round q) f g z = absurd (again_no_round s q z)
    spot_same (choosing true cs) c (of_guard s) (of_core q) f g z = let l = again_place_lt q in absurd (omega (arith, z, l))
    spot_same (choosing true cs) c (of_guard s) (of_guard q) f g z = ap (λ k. of_guard k) (guard_same cs s q f g (omega (arith, z)))
    spot_same (choosing true cs) c (of_guard s) (of_choice q) f g z = let l = guard_place_lt cs s f in absurd (omega (arith, z, l))
    spot_same (choosing true cs) c (of_guard s) (of_round q) f g z = let l = round_place_lt (choice_count cs) q in absurd (omega (arith, z, l))
    spot_same (choosing true cs) c (of_choice s) (of_core q) f g z = let l = again_place_lt q in absurd (omega (arith, z, l))
    spot_same (choosing true cs) c (of_choice s) (of_guard q) f g z = let l = guard_place_lt cs q g in absurd (omega (arith, z, l))
    spot_same (choosing true cs) c (of_choice s) (of_choice q) f g z = ap (λ k. of_choice k) (choice_same cs c s q f g (omega (arith, z)))
    spot_same (choosing true cs) c (of_choice s) (of_round q) f g z = let l = round_place_lt (choice_count cs) q in absurd (omega (arith, z, l))
    spot_same (choosing true cs) c (of_round s) (of_core q) f g z = absurd (again_no_round q s (sym z))
    spot_same (choosing true cs) c (of_round s) (of_guard q) f g z = let l = round_place_lt (choice_count cs) s in absurd (omega (arith, z, l))
    spot_same (choosing true cs) c (of_round s) (of_choice q) f g z = let l = round_place_lt (choice_count cs) s in absurd (omega (arith, z, l))
    spot_same (choosing true cs) c (of_round s) (of_round q) f g z = ap (λ k. of_round k) (round_same s q z)

    choice_same : (cs : Choices) → ChoicesReadNoTarget cs → (s q : ChoiceSpot cs) → IsFineChoice P cs s → IsFineChoice P cs q
        → choice_place P cs s ≡ choice_place P cs q → s ≡ q
    choice_same no_choices c s q f g z = elim s [ ]
    choice_same (and_choice e p more) c (this_choice s) (this_choice q) f g z = ap (λ k. this_choice k) (spot_same p c.0 s q f g z)
    choice_same (and_choice e p more) c (this_choice s) (other_choice q) f g z = let l = place_lt P p c.0 s f in absurd (omega (arith, z, l))
    choice_same (and_choice e p more) c (other_choice s) (this_choice q) f g z = let l = place_lt P p c.0 q g in absurd (omega (arith, z, l))
    choice_same (and_choice e p more) c (other_choice s) (other_choice q) f g z = ap (λ k. other_choice k) (choice_same more c.1 s q f g (omega (arith, z)))

    guarded_same : (p : Process) → ReadsNoTarget p → (s q : GuardedSpot p) → GuardedFine p s → GuardedFine p q → guarded_place p s ≡ guarded_place p q → s ≡ q
    guarded_same p c child child f g z = refl
    guarded_same p c child latch f g z = absurd (omega (arith, z))
    guarded_same p c child next f g z = absurd (omega (arith, z))
    guarded_same p c child (inner q) f g z = absurd (omega (arith, z))
    guarded_same p c latch child f g z = absurd (omega (arith, z))
    guarded_same p c latch latch f g z = refl
    guarded_same p c latch next f g z = absurd (omega (arith, z))
    guarded_same p c latch (inner q) f g z = absurd (omega (arith, z))
    guarded_same p c next child f g z = absurd (omega (arith, z))
    guarded_same p c next latch f g z = absurd (omega (arith, z))
    guarded_same p c next next f g z = refl
    guarded_same p c next (inner q) f g z = absurd (omega (arith, z))
    guarded_same p c (inner s) child f g z = absurd (omega (arith, z))
    guarded_same p c (inner s) latch f g z = absurd (omega (arith, z))
    guarded_same p c (inner s) next f g z = absurd (omega (arith, z))
    guarded_same p c (inner s) (inner q) f g z = ap (λ k. inner k) (spot_same p c s q f g (omega (arith, z)))

    branch_same : (ms : Processes) → EachReadsNoTarget ms → (s q : BranchSpot ms) → IsFineBranch P ms s → IsFineBranch P ms q
        → branch_place P ms s ≡ branch_place P ms q → s ≡ q
    branch_same no_members c s q f g z = elim s [ ]
    branch_same (and_member p more) c (in_this s) (in_this q) f g z = ap (λ k. in_this k)
        (guarded_same p c.0 s q (branch_fine p more s f) (branch_fine p more q g) (sym (in_branch p more s) ∙ (z ∙ in_branch p more q)))
    branch_same (and_member p more) c (in_this s) (in_others q) f g z =
        let l = guarded_place_lt p c.0 s (branch_fine p more s f) in let e = in_branch p more s in absurd (omega (arith, z, l, e))
    branch_same (and_member p more) c (in_others s) (in_this q) f g z =
        let l = guarded_place_lt p c.0 q (branch_fine p more q g) in let e = in_branch p more q in absurd (omega (arith, z, l, e))
    branch_same (and_member p more) c (in_others s) (in_others q) f g z = ap (λ k. in_others k) (branch_same more c.1 s q f g (omega (arith, z)))

    turn_same : (ms : Processes) → EachReadsNoTarget ms → (s q : TurnSpot ms) → IsFineTurn P ms s → IsFineTurn P ms q
        → turn_place P ms s ≡ turn_place P ms q → s ≡ q
    turn_same no_members c s q f g z = elim s [ ]
    turn_same (and_member p no_members) c (in_last s) (in_last q) f g z = ap (λ k. in_last k) (spot_same p c.0 s q f g z)
    turn_same (and_member p (and_member r more)) c (in_member s) (in_member q) f g z = ap (λ k. in_member k)
        (guarded_same p c.0 s q (turn_fine p r more s f) (turn_fine p r more q g) (sym (in_turns p r more s) ∙ (z ∙ in_turns p r more q)))
    turn_same (and_member p (and_member r more)) c (in_member s) (in_later q) f g z =
        let l = guarded_place_lt p c.0 s (turn_fine p r more s f) in let e = in_turns p r more s in absurd (omega (arith, z, l, e))
    turn_same (and_member p (and_member r more)) c (in_later s) (in_member q) f g z =
        let l = guarded_place_lt p c.0 q (turn_fine p r more q g) in let e = in_turns p r more q in absurd (omega (arith, z, l, e))
    turn_same (and_member p (and_member r more)) c (in_later s) (in_later q) f g z =
        ap (λ k. in_later k) (turn_same (and_member r more) c.1 s q f g (omega (arith, z)))

module _ (P : TypedProgram) (given : Given P) where
  abbrev part_node : (y : ℕ) → Part → Node P.body
  part_node y (a_bit i one) = bit_node y i one
  part_node y (a_put i one) = rail_node (of_var y) i one
  part_node y (a_mark i) = wrote_node y i
  part_node y (a_joint k) = joint_node y k

  part_number : (y : ℕ) (b : Part) → number_of P given (part_node y b) ≡ var_from P y + offset (var_width P.vars y) b
  part_number y (a_bit i one) = refl
  part_number y (a_put i one) = refl
  part_number y (a_mark i) = refl
  part_number y (a_joint k) = refl

  -- go and done, wires, parts of blocks, and the root with what is inside of it: in this order
  data Front : Node P.body → Type 0 where
    is_go : Front go_node
    is_done : Front (own_node next)

  data Wired : Node P.body → Type 0 where
    is_rail : (k i : ℕ) (one : Bool) → k < length P.channels → i < channel_width P.channels k → Wired (rail_node (of_channel k) i one)
    is_ack : (k : ℕ) → k < length P.channels → Wired (ack_node k)

  record Blocked (n : Node P.body) : Type 0 where
    var : ℕ
    part : Part
    within : var < length P.vars
    fine : IsPart (var_width P.vars var) part
    is : part_node var part ≡ n

  data Rooted : Node P.body → Type 0 where
    is_child : Rooted (own_node child)
    is_latch : Rooted (own_node latch)
    is_inner : (s : Spot P.body) → IsFine P P.body s → Rooted (own_node (inner s))

  data Stands (n : Node P.body) : Type 0 where
    in_front : Front n → Stands n
    in_wires : Wired n → Stands n
    in_block : Blocked n → Stands n
    in_root : Rooted n → Stands n

  stands_at : (n : Node P.body) → Fine P given n → Stands n
  stands_at go_node f = in_front is_go
  stands_at (own_node next) f = in_front is_done
  stands_at (own_node child) f = in_root is_child
  stands_at (own_node latch) f = in_root is_latch
  stands_at (own_node (inner s)) f = in_root (is_inner s f)
  stands_at (rail_node (of_channel k) i one) f = in_wires (is_rail k i one f.0 f.1)
  stands_at (ack_node k) f = in_wires (is_ack k f)
  stands_at (rail_node (of_var y) i one) f = in_block (record { var = y; part = a_put i one; within = f.0; fine = f.1; is = refl })
  stands_at (bit_node y i one) f = in_block (record { var = y; part = a_bit i one; within = f.0; fine = f.1; is = refl })
  stands_at (wrote_node y i) f = in_block (record { var = y; part = a_mark i; within = f.0; fine = f.1; is = refl })
  stands_at (joint_node y k) f = in_block (record { var = y; part = a_joint k; within = f.0; fine = f.1; is = refl })

  -- their bounds
  front_below : {n : Node P.body} → Front n → number_of P given n < 2
  front_below is_go = omega arith
  front_below is_done = omega arith

  wired_from : {n : Node P.body} → Wired n
      → (2 ≤ number_of P given n) × (number_of P given n < 2 + wires_before P.channels (length P.channels))
  wired_from (is_rail k i one hk hi) = rail_bounds P k i one hk hi
  wired_from (is_ack k hk) = ack_bounds P k hk

  blocked_from : {n : Node P.body} → Blocked n
      → (2 + wires_before P.channels (length P.channels) ≤ number_of P given n) × (number_of P given n < root_request P)
  blocked_from {n = n} b =
      let l = part_bounds P given b.var b.part b.within b.fine in
      let e : number_of P given n ≡ var_from P b.var + offset (var_width P.vars b.var) b.part = sym (ap (number_of P given) b.is) ∙ part_number b.var b.part in
      let low = l.0 in
      let high = l.1 in
      (omega (arith, e, low), omega (arith, e, high))

  rooted_from : {n : Node P.body} → Rooted n → root_request P ≤ number_of P given n
  rooted_from is_child = omega arith
  rooted_from is_latch = omega arith
  rooted_from (is_inner s f) = omega arith

  root_far : 2 + wires_before P.channels (length P.channels) ≤ root_request P
  root_far = omega arith

  -- and two of a kind
  front_same : {n m : Node P.body} → Front n → Front m → number_of P given n ≡ number_of P given m → n ≡ m
  front_same is_go is_go z = refl
  front_same is_go is_done z = absurd (omega (arith, z))
  front_same is_done is_go z = absurd (omega (arith, z))
  front_same is_done is_done z = refl

  wired_same : {n m : Node P.body} → Wired n → Wired m → number_of P given n ≡ number_of P given m → n ≡ m
  wired_same (is_rail k i one hk hi) (is_rail j l t hj hl) z =
      let r = rail_same P k j i l one t hk hj hi hl z in
      ap (λ c. rail_node (of_channel c) i one) r.0 ∙ (ap (λ b. rail_node (of_channel j) b one) r.1 ∙ ap (λ b. rail_node (of_channel j) l b) r.2)
  wired_same (is_rail k i one hk hi) (is_ack j hj) z = absurd (rail_no_ack P k j i one hk hj hi z)
  wired_same (is_ack k hk) (is_rail j l t hj hl) z = absurd (rail_no_ack P j k l t hj hk hl (sym z))
  wired_same (is_ack k hk) (is_ack j hj) z = ap (λ c. ack_node c) (ack_same P k j hk hj z)

  blocked_same : {n m : Node P.body} → Blocked n → Blocked m → number_of P given n ≡ number_of P given m → n ≡ m
  blocked_same {n = n} {m = m} a b z =
      let e : var_from P a.var + offset (var_width P.vars a.var) a.part ≡ var_from P b.var + offset (var_width P.vars b.var) b.part =
      sym (part_number a.var a.part) ∙ (ap (number_of P given) a.is ∙ (z ∙ (sym (ap (number_of P given) b.is) ∙ part_number b.var b.part))) in
      let u : a.var ≡ b.var = same_var P given a.var b.var a.part b.part a.within b.within a.fine b.fine e in
      let q : a.part ≡ b.part = same_part P given b.var a.part b.part (subst (λ (y : ℕ). IsPart (var_width P.vars y) a.part) u a.fine) b.fine
      (sym (ap (λ y. var_from P y + offset (var_width P.vars y) a.part) u) ∙ e) in
      sym a.is ∙ (ap (λ y. part_node y a.part) u ∙ (ap (λ c. part_node b.var c) q ∙ b.is))

  rooted_same : {n m : Node P.body} → Rooted n → Rooted m → number_of P given n ≡ number_of P given m → n ≡ m
  rooted_same is_child is_child z = refl
  rooted_same is_child is_latch z = absurd (omega (arith, z))
  rooted_same is_child (is_inner q g) z = absurd (omega (arith, z))
  rooted_same is_latch is_child z = absurd (omega (arith, z))
  rooted_same is_latch is_latch z = refl
  rooted_same is_latch (is_inner q g) z = absurd (omega (arith, z))
  rooted_same (is_inner s f) is_child z = absurd (omega (arith, z))
  rooted_same (is_inner s f) is_latch z = absurd (omega (arith, z))
  rooted_same (is_inner s f) (is_inner q g) z = ap (λ k. own_node (inner k)) (spot_same P P.body given.covered s q f g (omega (arith, z)))

  pub one_number : (n m : Node P.body) → Fine P given n → Fine P given m → number_of P given n ≡ number_of P given m → n ≡ m
  one_number n m f g z = by (stands_at n f) (stands_at m g)
    where
      by : Stands n → Stands m → n ≡ m
      by (in_front a) (in_front b) = front_same a b z
      by (in_wires a) (in_wires b) = wired_same a b z
      by (in_block a) (in_block b) = blocked_same a b z
      by (in_root a) (in_root b) = rooted_same a b z
      by (in_front a) (in_wires b) = let l = front_below a in let h = (wired_from b).0 in let r = root_far in absurd (omega (arith, z, l, h, r))
      by (in_front a) (in_block b) = let l = front_below a in let h = (blocked_from b).0 in let r = root_far in absurd (omega (arith, z, l, h, r))
      by (in_front a) (in_root b) = let l = front_below a in let h = rooted_from b in let r = root_far in absurd (omega (arith, z, l, h, r))
      by (in_wires a) (in_front b) = let l = front_below b in let h = (wired_from a).0 in let r = root_far in absurd (omega (arith, z, l, h, r))
      by (in_wires a) (in_block b) = let l = (wired_from a).1 in let h = (blocked_from b).0 in let r = root_far in absurd (omega (arith, z, l, h, r))
      by (in_wires a) (in_root b) = let l = (wired_from a).1 in let h = rooted_from b in let r = root_far in absurd (omega (arith, z, l, h, r))
      by (in_block a) (in_front b) = let l = front_below b in let h = (blocked_from a).0 in let r = root_far in absurd (omega (arith, z, l, h, r))
      by (in_block a) (in_wires b) = let l = (wired_from b).1 in let h = (blocked_from a).0 in let r = root_far in absurd (omega (arith, z, l, h, r))
      by (in_block a) (in_root b) = let l = (blocked_from a).1 in let h = rooted_from b in let r = root_far in absurd (omega (arith, z, l, h, r))
      by (in_root a) (in_front b) = let l = front_below b in let h = rooted_from a in let r = root_far in absurd (omega (arith, z, l, h, r))
      by (in_root a) (in_wires b) = let l = (wired_from b).1 in let h = rooted_from a in let r = root_far in absurd (omega (arith, z, l, h, r))
      by (in_root a) (in_block b) = let l = (blocked_from b).1 in let h = rooted_from a in let r = root_far in absurd (omega (arith, z, l, h, r))
