-- What the guards of a covered circuit's own nodes say, read at their numbers, is what the rules of its cells say.
use Rattle.std.proofs.Common.{◌≡◌, ℕ, zero, suc, ◌+◌, ◌-◌, ◌*◌, ◌<◌, ◌≤◌, Bool, true, false, List, [], ◌∷◌, ◌++◌, map, length, get_or, refl, sym, ap, ◌∙◌, arith, length-append, get_or-append-add, subst}
use Rattle.std.specs.Prelude.{not, ◌&&◌, ◌||◌, if◌then◌else◌}
use Rattle.std.specs.List.{list_any, list_all, range_with_len}
use Rattle.std.proofs.lemmas.List.{get_or_append_left}
use Rattle.prs_core.specs.Nets.{NodeRules, is_high, is_low, one_term}
use Rattle.prs_core.specs.Pairs.{pair_of, pairs_from, no_rules, or_of, lows, Pair as NodePair}
use Rattle.prs_core.specs.Moves.{term_holds, guard_holds}
use Rattle.width_check.specs.Processes.{Formula, Process, skipping, assigning, sending, receiving, in_turn, side_by_side, choosing, repeating, Processes, no_members, and_member, member_count, TypedProgram, Choices, no_choices, and_choice, choice_count}
use Rattle.chp_base.specs.declared.span.Span.{Span}
use Rattle.width_check.specs.Typing.{channel_width, var_width, ReadsFrom, IsProcess, AreProcesses, AreChoices}
use Rattle.width_check.specs.Values.{IsWellFormed, width_of}
use Rattle.width_check.specs.Reads.{reads}
use Rattle.handshake_expand.specs.Layout.{formula_size, size_of, turn_size, branches_size, channel_from, guards_size}
use Rattle.handshake_expand.specs.Answers as number
use Rattle.cell_variable.specs.Variables.{write_answer}
use Rattle.cell_channel.specs.Ends.{taken_rail, port_rules}
use Rattle.function_blocks.specs.Expressions.{formula_rules, formula_result}
use Rattle.function_blocks.specs.Rails.{pair_in}
use Rattle.function_blocks.specs.Listed.{node_of}
use Rattle.function_blocks.proofs.Sizes.{rules_length, result_length}
use Rattle.function_blocks.proofs.GatesTold.{listed}
use Rattle.circuit_places.proofs.Meets.{read_declared}
use Rattle.cell_parallel.specs.Trees.{tree_rules}
use Rattle.cell_parallel.specs.Sizes.{tree_length}
use Rattle.chp_meaning.specs.Halves.{ReadsNoTarget, EachReadsNoTarget, ChoicesReadNoTarget}
use Rattle.circuit_places.specs.Lines.{of_channel, of_var, Rails, Seen}
use Rattle.circuit_places.specs.Circuit.{of_receive, heard, stored, taking, Pairs, side_of, gate_count, Cells, TurnCells, BranchCells, cell_bit, joint_count, tree_value, tree_rule, answer, last_answer, Spot, TurnSpot, BranchSpot, of_branch, joint, in_this, in_others, child, latch, next, inner, of_skip, done, gate, of_assign, of_send, in_members, of_loop, ask, in_body, in_last, in_member, in_later, Rule, rule_of, gate_rule, rule, turn_rule, branch_rule, GuardCells, ChoiceCells, GuardSpot, this_gate, other_gate, ChoiceSpot, this_choice, other_choice, of_core, of_guard, of_choice, of_round, heads, guards_rule, choice_answers, choice_rule, branches_answered as cell_ends}
use Rattle.circuit_places.specs.Whole.{lows_only}
use Rattle.net_compose.specs.Translation.{through_rules, rules_of, turn_rules, branches_rules, branch_ends, branches_end, bits_at, ack_at, written_at, bodies_rules, guard_pairs, branch_answers, choosing_at, repeating_at, guards_rules as net_guards}
use Rattle.net_compose.proofs.Sizes.{has_bits, Counted, statement_length, latches_and_starts, guards_length}
use Rattle.net_compose.proofs.FlatTrees.{joint_count_is, tree_bits, length-tree_bits, tree_bit, value_node, value_leaf, answer_value, Alike, tree_alike}
use Rattle.net_compose.proofs.FlatCells.{plain_size, pair_bits, rail_bits, bits, turn_bits, branch_bits, place, turn_place, branch_place, IsFine, IsFineTurn, IsFineBranch, length-bits, length-branch_bits, place_lt, branch_place_lt, guard_bits, choice_bits, guard_place, choice_place, IsFineGuard, IsFineChoice, length-guard_bits, guard_place_lt, rail_place_lt, length-pair_bits, rail_place}
use Rattle.handshake_expand.specs.Answers.{guards_from, bodies_from, select_own, again_own}
use Rattle.cell_select.specs.Selections.{select_rules, again_rules}
use Rattle.function_blocks.specs.Waves.{out_rail}
use Rattle.circuit_places.specs.Heads.{Bits}
use Rattle.circuit_places.specs.Cores.{OwnSpot, RoundSpot, core_rule, turning_rule}
use Rattle.net_compose.proofs.Templates.{BitsAt, HeadsAt}
use Rattle.net_compose.proofs.FlatCore.{list_of, length-list_of, own_list, own_place, own_place_lt, length-own_list, own_now, select_told, again_list, again_place, round_place, again_place_lt, round_place_lt, length-again_list, again_now, round_now, round_told, again_told, bits_at_range, some_range}
use Rattle.function_blocks.proofs.PartSizes.{count_doubled}

-- the nodes from a number on have these values
pub record Stands (v : ℕ → Bool) (from : ℕ) (xs : List Bool) : Type 0 where
  pub at : (i : ℕ) → i < length xs → v (from + i) ≡ get_or xs i false

-- the node of a number, whose rules stand at a place of the list
pub record Told (v : ℕ → Bool) (rules : List NodeRules) (from i : ℕ) (r : Rule) : Type 0 where
  pub now : v (from + i) ≡ r.now
  pub up : guard_holds v (get_or rules i no_rules).up ≡ r.up
  pub down : guard_holds v (get_or rules i no_rules).down ≡ r.down

pub told_of : (v : ℕ → Bool) (rules : List NodeRules) (from i : ℕ) (r s : Rule) → r ≡ s → Told v rules from i r → Told v rules from i s
told_of v rules from i r s e t = record {
  now = t.now ∙ ap (λ (x : Rule). x.now) e;
  up = t.up ∙ ap (λ (x : Rule). x.up) e;
  down = t.down
      ∙ ap (λ (x : Rule). x.down) e;
}

-- the same place further on in a longer list
pub told_within : (v : ℕ → Bool) (rules more : List NodeRules) (from i to j : ℕ) (r : Rule) → get_or more j no_rules ≡ get_or rules i no_rules
    → to + j ≡ from + i → Told v rules from i r → Told v more to j r
told_within v rules more from i to j r e n t = record {
  now = ap v n ∙ t.now;
  up = ap (λ (x : NodeRules). guard_holds v x.up) e ∙ t.up;
  down = ap (λ (x : NodeRules). guard_holds v x.down) e ∙ t.down;
}

-- and where the list is another one
pub told_as : (v : ℕ → Bool) (rules more : List NodeRules) (from i : ℕ) (r : Rule) → rules ≡ more → Told v more from i r → Told v rules from i r
told_as v rules more from i r e t = told_within v more rules from i from i r (ap (λ l. get_or l i no_rules) e) refl t

module _ (v : ℕ → Bool) where
  pub stands_after : (from to : ℕ) (xs ys : List Bool) → Stands v from (xs ++ ys) → from + length xs ≡ to → Stands v to ys
  stands_after from to xs ys h e = record {
    at = λ i lt.
        let n : to + i ≡ from + (length xs + i) = omega arith in
        ap v n ∙ (h.at (length xs + i) (omega (arith, length-append xs ys)) ∙ get_or-append-add xs ys i false);
  }

  pub stands_before : (from : ℕ) (xs ys : List Bool) → Stands v from (xs ++ ys) → Stands v from xs
  stands_before from xs ys h = record {
    at = λ i lt. h.at i (omega (arith, length-append xs ys)) ∙ get_or_append_left xs ys false i lt;
  }

  pub stands_head : (from : ℕ) (b : Bool) (xs : List Bool) → Stands v from (b ∷ xs) → v from ≡ b
  stands_head from b xs h = let n : from ≡ from + 0 = omega arith in ap v n ∙ h.at 0 (omega arith)

  -- the rails of some gates
  pub gate_value : (n : ℕ) (x : Pairs n) (from k : ℕ) (one : Bool) → k < n → Stands v from (pair_bits n x)
      → v (from + rail_place k one) ≡ side_of (pair_in n x k) one
  gate_value zero x from k one h s = absurd (omega arith)
  gate_value (suc n) x from zero true h s = s.at 0 (omega arith)
  gate_value (suc n) x from zero false h s = s.at 1 (omega arith)
  gate_value (suc n) x from (suc k) one h s =
      let e : from + suc (suc (rail_place k one)) ≡ from + 2 + rail_place k one = omega arith in
      ap v e ∙ gate_value n x.1 (from + 2) k one (omega arith) (stands_after from (from + 2) (x.0.t ∷ x.0.f ∷ []) (pair_bits n x.1) s (omega arith))

  -- guards of one term
  pub one_high : (n : ℕ) → guard_holds v (one_term (is_high n ∷ [])) ≡ v n
  one_high n = elim (v n) as (λ b. ((b && true) || false) ≡ b) [ true ↦ refl | false ↦ refl ]

  pub one_low : (n : ℕ) → guard_holds v (one_term (is_low n ∷ [])) ≡ not (v n)
  one_low n = elim (v n) as (λ b. ((not b && true) || false) ≡ not b) [ true ↦ refl | false ↦ refl ]

  pub high_and_low : (n m : ℕ) → guard_holds v (one_term (is_high n ∷ is_low m ∷ [])) ≡ (v n && not (v m))
  high_and_low n m = elim (v n) as (λ b. ((b && (not (v m) && true)) || false) ≡ (b && not (v m))) [
    | true ↦ elim (v m) as
        (λ c. ((not c && true) || false) ≡ not c) [ true ↦ refl | false ↦ refl ]
    | false ↦ refl
  ]

  pub both_high : (n m : ℕ) → guard_holds v (one_term (is_high n ∷ is_high m ∷ [])) ≡ (v n && v m)
  both_high n m = elim (v n) as (λ b. ((b && (v m && true)) || false) ≡ (b && v m)) [
    | true ↦ elim (v m) as
        (λ c. ((c && true) || false) ≡ c) [ true ↦ refl | false ↦ refl ]
    | false ↦ refl
  ]

  pub both_low : (n m : ℕ) → guard_holds v (one_term (is_low n ∷ is_low m ∷ [])) ≡ (not (v n) && not (v m))
  both_low n m = elim (v n) as (λ b. ((not b && (not (v m) && true)) || false) ≡ (not b && not (v m))) [
    | true ↦ refl
    | false ↦ elim (v m) as
        (λ c. ((not c && true) || false) ≡ not c) [ true ↦ refl | false ↦ refl ]
  ]

  -- a rail among so many pairs
  pub rail_value : (n : ℕ) (q : Rails) (from i : ℕ) (one : Bool) → i < n → Stands v from (rail_bits n q) → v (from + rail_place i one) ≡ q i one
  rail_value zero q from i one h s = absurd (omega arith)
  rail_value (suc n) q from zero true h s = s.at 0 (omega arith)
  rail_value (suc n) q from zero false h s = s.at 1 (omega arith)
  rail_value (suc n) q from (suc i) one h s =
      let e : from + suc (suc (rail_place i one)) ≡ from + 2 + rail_place i one = omega arith in
      ap v e ∙ rail_value n (λ k. q (suc k)) (from + 2) i one (omega arith)
      (stands_after from (from + 2) (q zero true ∷ q zero false ∷ []) (rail_bits n (λ k. q (suc k))) s (omega arith))

  -- a merge over some nodes
  any_high : (ns : List ℕ) → guard_holds v (map (λ k. is_high k ∷ []) ns) ≡ list_any (λ b. b) (map v ns)
  any_high [] = refl
  any_high (n ∷ ns) = elim (v n) as (λ b. ((b && true) || guard_holds v (map (λ k. is_high k ∷ []) ns)) ≡
      (b || list_any (λ b. b) (map v ns))) [ true ↦ refl | false ↦ any_high ns ]

  lows_hold : (ns : List ℕ) → term_holds v (lows ns) ≡ list_all not (map v ns)
  lows_hold [] = refl
  lows_hold (n ∷ ns) = ap (λ b. not (v n) && b) (lows_hold ns)

  or_false : (b : Bool) → (b || false) ≡ b
  or_false true = refl
  or_false false = refl

  pub or_up : (ns : List ℕ) → guard_holds v (or_of ns).up ≡ list_any (λ b. b) (map v ns)
  or_up [] = refl
  or_up (n ∷ ns) = any_high (n ∷ ns)

  pub or_down : (ns : List ℕ) → guard_holds v (or_of ns).down ≡ lows_only (map v ns)
  or_down [] = refl
  or_down (n ∷ ns) = or_false (term_holds v (lows (n ∷ ns))) ∙ ap (λ b. not (v n) && b) (lows_hold ns)

-- the rules of a receive's rails
length-port_rules : (r n from : ℕ) → length (port_rules r (pairs_from n from)) ≡ 2 * n
length-port_rules r zero from = refl
length-port_rules r (suc n) from = omega (arith, length-port_rules r n (from + 2))

port_rule_at : (r n from i : ℕ) (one : Bool) → i < n → get_or (port_rules r (pairs_from n from)) (rail_place i one) no_rules ≡ taken_rail r
    (from + rail_place i one)
port_rule_at r zero from i one h = absurd (omega arith)
port_rule_at r (suc n) from zero true h = ap (taken_rail r) (let e : from ≡ from + 0 = omega arith in e)
port_rule_at r (suc n) from zero false h = refl
port_rule_at r (suc n) from (suc i) one h = port_rule_at r n (from + 2) i one (omega arith)
    ∙ ap (taken_rail r) (let e : from + 2 + rail_place i one ≡ from + suc (suc (rail_place i one)) = omega arith in e)

pub counted : Counted
counted = record { rules = rules_length; bits = result_length; tree = tree_length }

-- behind so many rules
behind_rules : (xs ys : List NodeRules) (m k : ℕ) → length xs ≡ m → get_or (xs ++ ys) (m + k) no_rules ≡ get_or ys k no_rules
behind_rules xs ys m k e = ap (λ n. get_or (xs ++ ys) (n + k) no_rules) (sym e) ∙ get_or-append-add xs ys k no_rules

-- a result of one bit
one_pair : (l : List NodePair) → length l ≡ 1 → l ≡ pair_of l 0 ∷ []
one_pair [] h = absurd (omega (arith, h))
one_pair (x ∷ []) h = refl
one_pair (x ∷ y ∷ l) h = absurd (omega (arith, h))

module _ (P : TypedProgram) where
  -- the ends of branches, and where their nodes end
  pub length-branch_ends : (members : Processes) (from : ℕ) → length (branch_ends P members from) ≡ member_count members
  length-branch_ends no_members from = refl
  length-branch_ends (and_member p more) from = ap (λ k. suc k) (length-branch_ends more (from + 3 + size_of P p))

  pub branches_end_is : (members : Processes) (from : ℕ) → branches_end P members from ≡ from + branches_size P members
  branches_end_is no_members from = omega arith
  branches_end_is (and_member p more) from = let e = branches_end_is more (from + 3 + size_of P p) in omega (arith, e)

  -- an assignment that doesn't read its target has the rules of its answer, and of its expression
  pub plain_rules : (z : ℕ) (at : Span) (e : Formula) → reads z e ≡ false → (r from : ℕ)
      → rules_of P (assigning z at e) r from ≡ write_answer r (written_at P z) ∷ formula_rules (bits_at P) e r (from + 1)
  plain_rules z at e c r from = ap (λ b. if b then through_rules P z e r from else
      (write_answer r (written_at P z) ∷ formula_rules (bits_at P) e r (from + 1))) c

  mutual
    pub length-rules : (p : Process) → ReadsNoTarget p → IsProcess P.channels P.vars p → (r from : ℕ) → length (rules_of P p r from) ≡ size_of P p
    length-rules skipping c t r from = refl
    length-rules (sending chan at e) c t r from = omega (arith, rules_length P.vars (bits_at P) (has_bits P) e r (from + 1) t.sent.formed t.sent.reads)
    length-rules (in_turn members) c t r from = length-turn_rules members c t.1 r from
    length-rules (repeating p) c t r from = omega (arith, length-rules p c t (from + 1) (from + 2))
    length-rules (assigning z at e) c t r from =
        ap length (plain_rules z at e c r from)
        ∙ omega (arith, rules_length P.vars (bits_at P) (has_bits P) e r (from + 1) t.1.formed t.1.reads, plain_size P z e c)
    length-rules (receiving chan at z to) c t r from = omega (arith, length-port_rules r (channel_width P.channels chan) (channel_from P chan))
    length-rules (side_by_side members) c t r from =
        omega (
          arith,
          length-append (branches_rules P members r from) (tree_rules (branch_ends P members from) (branches_end P members from)),
          length-branches_rules members c t.1 r from,
          tree_length (branch_ends P members from) (branches_end P members from),
          length-branch_ends members from,
        )
    length-rules (choosing again choices) c t r from = statement_length counted P (choosing again choices) r from t

    pub length-branches_rules : (members : Processes) → EachReadsNoTarget members → AreProcesses P.channels P.vars members → (r from : ℕ)
        → length (branches_rules P members r from) ≡ branches_size P members
    length-branches_rules no_members c t r from = refl
    length-branches_rules (and_member p more) c t r from =
        omega (
          arith,
          length-append (rules_of P p from (from + 3)) (branches_rules P more r (from + 3 + size_of P p)),
          length-rules p c.0 t.0 from (from + 3),
          length-branches_rules more c.1 t.1 r (from + 3 + size_of P p),
        )

    pub length-turn_rules : (members : Processes) → EachReadsNoTarget members → AreProcesses P.channels P.vars members → (r from : ℕ)
        → length (turn_rules P members r from) ≡ turn_size P members
    length-turn_rules no_members c t r from = refl
    length-turn_rules (and_member p no_members) c t r from = length-rules p c.0 t.0 r from
    length-turn_rules (and_member p (and_member q more)) c t r from =
        omega (
          arith,
          length-append (rules_of P p from (from + 3)) (turn_rules P (and_member q more) (from + 2) (from + 3 + size_of P p)),
          length-rules p c.0 t.0 from (from + 3),
          length-turn_rules (and_member q more) c.1 t.1 (from + 2) (from + 3 + size_of P p),
        )

  module _ (v : ℕ → Bool) where
    -- the parts of a sequence
    pub stands_member : (p q : Process) (more : Processes) (from : ℕ) (x : TurnCells (and_member p (and_member q more)))
        → Stands v from (turn_bits P (and_member p (and_member q more)) x) → Stands v (from + 3) (bits P p x.member.inner)
    stands_member p q more from x s =
        let a = bits P p x.member.inner in
        let b = turn_bits P (and_member q more) x.later in
        stands_before v (from + 3) a b (stands_after v from (from + 3) (x.member.child ∷ x.member.latch ∷ x.member.next ∷ []) (a ++ b) s (omega arith))

    pub stands_later : (p q : Process) (more : Processes) (c : ReadsNoTarget p) (from : ℕ) (x : TurnCells (and_member p (and_member q more)))
        → Stands v from (turn_bits P (and_member p (and_member q more)) x) → Stands v (from + 3 + size_of P p) (turn_bits P (and_member q more) x.later)
    stands_later p q more c from x s =
        let a = bits P p x.member.inner in
        let b = turn_bits P (and_member q more) x.later in
        stands_after v (from + 3) (from + 3 + size_of P p) a b
        (stands_after v from (from + 3) (x.member.child ∷ x.member.latch ∷ x.member.next ∷ []) (a ++ b) s (omega arith))
        (omega (arith, length-bits P p c x.member.inner))

    -- the parts of a parallel composition
    pub stands_branches : (members : Processes) (from : ℕ) (x : Cells (side_by_side members)) → Stands v from (bits P (side_by_side members) x)
        → Stands v from (branch_bits P members x.branches)
    stands_branches members from x s = stands_before v from (branch_bits P members x.branches) (tree_bits (joint_count (member_count members)) x.tree) s

    pub stands_tree : (members : Processes) (c : EachReadsNoTarget members) (from : ℕ) (x : Cells (side_by_side members))
        → Stands v from (bits P (side_by_side members) x) → Stands v (from + branches_size P members) (tree_bits (joint_count (member_count members)) x.tree)
    stands_tree members c from x s =
        stands_after v from (from + branches_size P members) (branch_bits P members x.branches) (tree_bits (joint_count (member_count members)) x.tree) s
        (omega (arith, length-branch_bits P members c x.branches))

    pub stands_this : (p : Process) (more : Processes) (from : ℕ) (x : BranchCells (and_member p more)) → Stands v from (branch_bits P (and_member p more) x)
        → Stands v (from + 3) (bits P p x.0.inner)
    stands_this p more from x s =
        let a = bits P p x.0.inner in
        let b = branch_bits P more x.1 in
        stands_before v (from + 3) a b (stands_after v from (from + 3) (x.0.child ∷ x.0.latch ∷ x.0.next ∷ []) (a ++ b) s (omega arith))

    pub stands_others : (p : Process) (more : Processes) (c : ReadsNoTarget p) (from : ℕ) (x : BranchCells (and_member p more))
        → Stands v from (branch_bits P (and_member p more) x) → Stands v (from + 3 + size_of P p) (branch_bits P more x.1)
    stands_others p more c from x s =
        let a = bits P p x.0.inner in
        let b = branch_bits P more x.1 in
        stands_after v (from + 3) (from + 3 + size_of P p) a b
        (stands_after v from (from + 3) (x.0.child ∷ x.0.latch ∷ x.0.next ∷ []) (a ++ b) s (omega arith))
        (omega (arith, length-bits P p c x.0.inner))

    -- the leaves of a completion tree, and its nodes
    tree_at : (members : Processes) (c : EachReadsNoTarget members) (from : ℕ) (x : Cells (side_by_side members)) →
        Stands v from (bits P (side_by_side members) x)
        → (k : ℕ) → k < joint_count (member_count members)
        → v (from + branches_size P members + k) ≡ cell_bit (joint_count (member_count members)) x.tree k
    tree_at members c from x s k less =
        (stands_tree members c from x s).at k (omega (arith, less, length-tree_bits (joint_count (member_count members)) x.tree))
        ∙ tree_bit (joint_count (member_count members)) x.tree k

    leaves_alike : (w : ℕ → Bool) (members : Processes) → EachReadsNoTarget members → (from a : ℕ) (x : BranchCells members) →
        Stands v from (branch_bits P members x)
        → ((i : ℕ) → i < member_count members → w (a + i) ≡ cell_ends members x i)
        → Alike v w (branch_ends P members from) (range_with_len a (member_count members))
    leaves_alike w no_members c from a x s h = tt
    leaves_alike w (and_member p more) c from a x s h = (
      s.at 2 (omega arith) ∙ (sym (h 0 (omega arith)) ∙ ap w (let e : a + 0 ≡ a = omega arith in e)),
      leaves_alike w more c.1 (from + 3 + size_of P p) (a + 1) x.1 (stands_others p more c.0 from x s)
          (λ i less. ap w (let e : a + 1 + i ≡ a + suc i = omega arith in e) ∙ h (suc i) (omega (arith, less))),
    )

    joint_told : (members : Processes) → EachReadsNoTarget members → (from : ℕ) (x : Cells (side_by_side members)) (k : ℕ) →
        k < joint_count (member_count members)
        → Stands v from (bits P (side_by_side members) x)
        → Told v (tree_rules (branch_ends P members from) (branches_end P members from)) (from + branches_size P members) k
        (tree_rule (member_count members) (cell_ends members x.branches) (cell_bit (joint_count (member_count members)) x.tree) k)
    joint_told members c from x k less s =
        let n = member_count members in
        let leaf = cell_ends members x.branches in
        let node = cell_bit (joint_count (member_count members)) x.tree in
        let same = leaves_alike (tree_value n leaf node) members c from 0 x.branches (stands_branches members from x s)
        (λ i lt. ap (tree_value n leaf node) (let e : 0 + i ≡ i = omega arith in e) ∙ value_leaf n leaf node i lt) in
        let told = tree_alike v (tree_value n leaf node) (branch_ends P members from) (range_with_len 0 n) (branches_end P members from) n same
        (λ j lt. ap v (let e : branches_end P members from + j ≡ from + branches_size P members + j = omega (arith, branches_end_is members from) in e)
        ∙ (tree_at members c from x s j lt ∙ sym (value_node n leaf node j))) k in
        record { now = tree_at members c from x s k less; up = told.0; down = told.1 }

    pub stands_body : (p : Process) (from : ℕ) (x : Cells (repeating p)) → Stands v from (bits P (repeating p) x) → Stands v (from + 2) (bits P p x.inner)
    stands_body p from x s = stands_after v from (from + 2) (x.answer ∷ x.ask ∷ []) (bits P p x.inner) s (omega arith)

    -- the answer's node
    mutual
      pub answer_is : (p : Process) → ReadsNoTarget p → IsProcess P.channels P.vars p → (from : ℕ) (x : Cells p) → Stands v from (bits P p x)
          → v (number.answer_of P p from) ≡ answer p x
      answer_is skipping c t from x s = stands_head v from x [] s
      answer_is (sending chan at e) c t from x s = stands_head v from x.answer (pair_bits (gate_count e) x.gates) s
      answer_is (in_turn members) c t from x s = turn_answer_is members c t.1 (omega (arith, t.0)) from x s
      answer_is (repeating p) c t from x s = stands_head v from x.answer (x.ask ∷ bits P p x.inner) s
      answer_is (assigning z at e) c t from x s =
          ap (λ b. v (if b then number.second_answer P z from (formula_size e) else from)) c ∙ stands_head v from x.answer (pair_bits (gate_count e) x.gates) s
      answer_is (receiving chan at z to) c t from x s = stands_head v from x.answer (x.kept ∷ rail_bits (channel_width P.channels chan) x.taken) s
      answer_is (side_by_side members) c t from x s =
          let n = member_count members in
          let some : 2 ≤ member_count members = t.0 in
          ap v (let e : from + (branches_size P members + (member_count members - 1)) - 1 ≡ from + branches_size P members + (member_count members - 2) = omega
          (arith, some) in e)
          ∙ (tree_at members c from x s (n - 2) (omega (arith, some, joint_count_is (member_count members)))
          ∙ sym (answer_value n (cell_ends members x.branches) (cell_bit (joint_count (member_count members)) x.tree) some))
      answer_is (choosing false choices) c t from x s = stands_head v from x.answer _ s
      answer_is (choosing true choices) c t from x s = stands_head v from x.answer _ s

      pub turn_answer_is : (members : Processes) → EachReadsNoTarget members → AreProcesses P.channels P.vars members → 1 ≤ member_count members
          → (from : ℕ) (x : TurnCells members) → Stands v from (turn_bits P members x) → v (number.turn_answer P members from) ≡ last_answer members x
      turn_answer_is no_members c t some from x s = absurd (omega (arith, some))
      turn_answer_is (and_member p no_members) c t some from x s = answer_is p c.0 t.0 from x s
      turn_answer_is (and_member p (and_member q more)) c t some from x s =
          turn_answer_is (and_member q more) c.1 t.1 (omega arith) (from + 3 + size_of P p) x.later (stands_later p q more c.0 from x s)

    -- the parts of a selection and of a guarded repetition
    stands_guards : (choices : Choices) (from : ℕ) (x : Cells (choosing false choices)) → Stands v from (bits P (choosing false choices) x)
        → Stands v (guards_from choices select_own from) (guard_bits choices x.guards)
    stands_guards choices from x s =
        let a = guard_bits choices x.guards in
        let b = choice_bits P choices x.branches in
        stands_before v (guards_from choices select_own from) a b
        (stands_after v from (guards_from choices select_own from) (own_list x) (a ++ b) s (omega (arith, length-own_list x)))

    pub stands_choices : (choices : Choices) (from : ℕ) (x : Cells (choosing false choices)) → Stands v from (bits P (choosing false choices) x)
        → Stands v (bodies_from choices select_own from) (choice_bits P choices x.branches)
    stands_choices choices from x s =
        let a = guard_bits choices x.guards in
        let b = choice_bits P choices x.branches in
        stands_after v (guards_from choices select_own from) (bodies_from choices select_own from) a b
        (stands_after v from (guards_from choices select_own from) (own_list x) (a ++ b) s (omega (arith, length-own_list x)))
        (omega (arith, length-guard_bits choices x.guards))

    again_guards : (choices : Choices) (from : ℕ) (x : Cells (choosing true choices)) → Stands v from (bits P (choosing true choices) x)
        → Stands v (guards_from choices again_own from) (guard_bits choices x.core.guards)
    again_guards choices from x s =
        let a = guard_bits choices x.core.guards in
        let b = choice_bits P choices x.core.branches in
        stands_before v (guards_from choices again_own from) a b
        (stands_after v from (guards_from choices again_own from) (again_list x) (a ++ b) s (omega (arith, length-again_list x)))

    pub again_choices : (choices : Choices) (from : ℕ) (x : Cells (choosing true choices)) → Stands v from (bits P (choosing true choices) x)
        → Stands v (bodies_from choices again_own from) (choice_bits P choices x.core.branches)
    again_choices choices from x s =
        let a = guard_bits choices x.core.guards in
        let b = choice_bits P choices x.core.branches in
        stands_after v (guards_from choices again_own from) (bodies_from choices again_own from) a b
        (stands_after v from (guards_from choices again_own from) (again_list x) (a ++ b) s (omega (arith, length-again_list x)))
        (omega (arith, length-guard_bits choices x.core.guards))

    pub stands_this_choice : (p : Process) (from : ℕ) (g : Formula) (more : Choices) (x : ChoiceCells (and_choice g p more))
        → Stands v from (choice_bits P (and_choice g p more) x) → Stands v from (bits P p x.0)
    stands_this_choice p from g more x s = stands_before v from (bits P p x.0) (choice_bits P more x.1) s

    pub stands_other_choice : (p : Process) (from : ℕ) (g : Formula) (more : Choices) (c : ReadsNoTarget p) (x : ChoiceCells (and_choice g p more))
        → Stands v from (choice_bits P (and_choice g p more) x) → Stands v (from + size_of P p) (choice_bits P more x.1)
    stands_other_choice p from g more c x s =
        stands_after v from (from + size_of P p) (bits P p x.0) (choice_bits P more x.1) s (omega (arith, length-bits P p c x.0))

    -- the answers of the branches, and the heads of the guards
    answers_at : (choices : Choices) → ChoicesReadNoTarget choices → AreChoices P.channels P.vars choices → (from : ℕ) (x : ChoiceCells choices)
        → Stands v from (choice_bits P choices x) → BitsAt (choice_count choices) v (branch_answers P choices from) (choice_answers choices x)
    answers_at no_choices c t from x s = tt
    answers_at (and_choice g p more) c t from x s = (
      answer_is p c.0 t.1 from x.0 (stands_this_choice p from g more x s),
      answers_at more c.1 t.2 (from + size_of P p) x.1 (stands_other_choice p from g more c.0 x s),
    )

    head_at : (g : Formula) → IsWellFormed g → ReadsFrom P.vars g → 1 ≤ width_of g → (from : ℕ) (u : Pairs (gate_count g))
        → Stands v from (pair_bits (gate_count g) u) → (one : Bool) → v (node_of (pair_of (formula_result g from) 0) one) ≡ out_rail g u 0 one
    head_at g formed read some from u s one =
        (listed P.vars g formed read).outputs (bits_at P) 0 from v (v 0) (λ y k side. v (node_of (pair_of (bits_at P y) k) side)) u
        (record {
          asked = refl;
          gates = λ k side less. gate_value v (gate_count g) u from k side less s;
          read = λ y k side z less. refl;
        }) 0 one some

    heads_at : (choices : Choices) → AreChoices P.channels P.vars choices → (from : ℕ) (x : GuardCells choices) → Stands v from (guard_bits choices x)
        → HeadsAt (choice_count choices) v (guard_pairs choices from) (heads choices x)
    heads_at no_choices t from x s = tt
    heads_at (and_choice g p more) t from x s =
        let l = formula_result g from in
        let some : 1 ≤ width_of g = omega (arith, t.0.agrees) in
        let here = head_at g t.0.formed t.0.reads some from x.0 (stands_before v from (pair_bits (gate_count g) x.0) (guard_bits more x.1) s) in
        subst (λ (ps : List NodePair). HeadsAt (suc (choice_count more)) v (ps ++ guard_pairs more (from + formula_size g)) (heads (and_choice g p more) x))
        (sym (one_pair l (result_length g from t.0.formed ∙ t.0.agrees))) (
          here true,
          here false,
          heads_at more t.2 (from + formula_size g) x.1 (stands_after v from (from + formula_size g) (pair_bits (gate_count g) x.0) (guard_bits more x.1) s
              (omega (arith, length-pair_bits (gate_count g) x.0, count_doubled g))),
        )

    -- the own nodes of a selection
    select_length : (choices : Choices) → AreChoices P.channels P.vars choices → (r from : ℕ)
        → length (select_rules (choosing_at P choices r (from + 2) select_own from)) ≡ 3 + (choice_count choices + choice_count choices)
    select_length choices t r from = omega (arith, latches_and_starts counted P choices r (from + 2) select_own from t)

    again_length : (choices : Choices) → AreChoices P.channels P.vars choices → (r from : ℕ)
        → length (again_rules (repeating_at P choices r from)) ≡ 6 + (choice_count choices + choice_count choices)
    again_length choices t r from = omega (arith, latches_and_starts counted P choices (from + 1) (from + 4) again_own from t)

    module _ (choices : Choices) (c : ChoicesReadNoTarget choices) (t : AreChoices P.channels P.vars choices) (some : 1 ≤ choice_count choices) (r from : ℕ)
        (x : Cells (choosing false choices)) (s : Stands v from (bits P (choosing false choices) x)) where
      own_at : (k : ℕ) → k < 3 + (choice_count choices + choice_count choices) → v (from + k) ≡ get_or (own_list x) k false
      own_at k less = (stands_before v from (own_list x) (guard_bits choices x.guards ++ choice_bits P choices x.branches) s).at k
          (omega (arith, less, length-own_list x))

      latched_at : BitsAt (choice_count choices) v (range_with_len (from + 3) (choice_count choices)) x.latched
      latched_at = bits_at_range (choice_count choices) (from + 3) v x.latched (λ k less.
          ap v (let e : from + 3 + k ≡ from + suc (suc (suc k)) = omega arith in e)
          ∙ (own_at (suc (suc (suc k))) (omega (arith, less))
          ∙ get_or_append_left (list_of (choice_count choices) x.latched) (list_of (choice_count choices) x.started) false k
          (omega (arith, less, length-list_of (choice_count choices) x.latched))))

      pub started_at : BitsAt (choice_count choices) v (range_with_len (from + select_own + choice_count choices) (choice_count choices)) x.started
      started_at = bits_at_range (choice_count choices) (from + select_own + choice_count choices) v x.started (λ k less.
          ap v (let e : from + 3 + choice_count choices + k ≡ from + suc (suc (suc (choice_count choices + k))) = omega arith in e)
          ∙ (own_at (suc (suc (suc (choice_count choices + k)))) (omega (arith, less))
          ∙ (ap (λ n. get_or (list_of (choice_count choices) x.latched ++ list_of (choice_count choices) x.started) (n + k) false)
          (sym (length-list_of (choice_count choices) x.latched))
          ∙ get_or-append-add (list_of (choice_count choices) x.latched) (list_of (choice_count choices) x.started) k false)))

      select_own_is : (z : OwnSpot (choice_count choices)) → Told v (rules_of P (choosing false choices) r from) from (own_place z)
          (core_rule (v r) false (heads choices x.guards) (choice_answers choices x.branches) x z)
      select_own_is z =
          let k = some_range (from + 3) (choice_count choices) some in
          let here = select_told v (choosing_at P choices r (from + 2) select_own from) x (heads choices x.guards) (choice_answers choices x.branches) k.0 k.1.0
          k.1.1 (own_at 2 (omega arith)) latched_at
          (answers_at choices c t (bodies_from choices select_own from) x.branches (stands_choices choices from x s))
          (heads_at choices t (guards_from choices select_own from) x.guards (stands_guards choices from x s)) z in
          let own = select_rules (choosing_at P choices r (from + 2) select_own from) in
          let same = get_or_append_left own (net_guards P choices (from + 1) (guards_from choices select_own from)
          ++ bodies_rules P choices (from + select_own + choice_count choices) (bodies_from choices select_own from)) no_rules (own_place z)
          (omega (arith, own_place_lt z, select_length choices t r from)) in
          record {
            now = own_at (own_place z) (own_place_lt z) ∙ own_now (v r) false (heads choices x.guards) (choice_answers choices x.branches) x z;
            up = ap (λ (y : NodeRules). guard_holds v y.up) same ∙ here.up;
            down = ap (λ (y : NodeRules). guard_holds v y.down) same ∙ here.down;
          }

    -- and of a repetition
    module _ (choices : Choices) (c : ChoicesReadNoTarget choices) (t : AreChoices P.channels P.vars choices) (r from : ℕ) (x : Cells (choosing true choices))
        (s : Stands v from (bits P (choosing true choices) x)) where
      round_at : (k : ℕ) → k < 6 + (choice_count choices + choice_count choices) → v (from + k) ≡ get_or (again_list x) k false
      round_at k less = (stands_before v from (again_list x) (guard_bits choices x.core.guards ++ choice_bits P choices x.core.branches) s).at k
          (omega (arith, less, length-again_list x))

      pub again_latched : BitsAt (choice_count choices) v (range_with_len (from + 6) (choice_count choices)) x.core.latched
      again_latched = bits_at_range (choice_count choices) (from + 6) v x.core.latched (λ k less.
          ap v (let e : from + 6 + k ≡ from + suc (suc (suc (suc (suc (suc k))))) = omega arith in e)
          ∙ (round_at (suc (suc (suc (suc (suc (suc k)))))) (omega (arith, less))
          ∙ get_or_append_left (list_of (choice_count choices) x.core.latched) (list_of (choice_count choices) x.core.started) false k
          (omega (arith, less, length-list_of (choice_count choices) x.core.latched))))

      pub again_started : BitsAt (choice_count choices) v (range_with_len (from + again_own + choice_count choices) (choice_count choices)) x.core.started
      again_started = bits_at_range (choice_count choices) (from + again_own + choice_count choices) v x.core.started (λ k less.
          ap v (let e : from + 6 + choice_count choices + k ≡ from + suc (suc (suc (suc (suc (suc (choice_count choices + k)))))) = omega arith in e)
          ∙ (round_at (suc (suc (suc (suc (suc (suc (choice_count choices + k))))))) (omega (arith, less))
          ∙ (ap (λ n. get_or (list_of (choice_count choices) x.core.latched ++ list_of (choice_count choices) x.core.started) (n + k) false)
          (sym (length-list_of (choice_count choices) x.core.latched))
          ∙ get_or-append-add (list_of (choice_count choices) x.core.latched) (list_of (choice_count choices) x.core.started) k false)))

      pub again_within : (k : ℕ) → k < 6 + (choice_count choices + choice_count choices)
          → get_or (rules_of P (choosing true choices) r from) k no_rules ≡ get_or (again_rules (repeating_at P choices r from)) k no_rules
      again_within k less =
          get_or_append_left (again_rules (repeating_at P choices r from)) (net_guards P choices (from + 3) (guards_from choices again_own from)
          ++ bodies_rules P choices (from + again_own + choice_count choices) (bodies_from choices again_own from)) no_rules k
          (omega (arith, less, again_length choices t r from))

    module _ (g : Formula) (p : Process) (more : Choices) (c : ChoicesReadNoTarget (and_choice g p more))
        (t : AreChoices P.channels P.vars (and_choice g p more)) (r from : ℕ) (x : Cells (choosing true (and_choice g p more)))
        (s : Stands v from (bits P (choosing true (and_choice g p more)) x)) where
      abbrev Arms : Choices
      Arms = and_choice g p more

      turned_at : v (from + 1) ≡ x.turn
      turned_at = round_at Arms c t r from x s 1 (omega arith)

      leave_at : v (from + 5) ≡ x.leave
      leave_at = round_at Arms c t r from x s 5 (omega arith)

      again_own_is : (z : OwnSpot (choice_count Arms)) → Told v (rules_of P (choosing true Arms) r from) from (again_place z)
          (core_rule x.turn x.leave (heads Arms x.core.guards) (choice_answers Arms x.core.branches) x.core z)
      again_own_is z =
          let hs = heads Arms x.core.guards in
          let ans = choice_answers Arms x.core.branches in
          let here = again_told v (repeating_at P Arms r from) x hs ans (round_at Arms c t r from x s 2 (omega arith)) leave_at turned_at
          (round_at Arms c t r from x s 4 (omega arith)) (again_latched Arms c t r from x s)
          (answers_at Arms c t (bodies_from Arms again_own from) x.core.branches (again_choices Arms from x s))
          (heads_at Arms t (guards_from Arms again_own from) x.core.guards (again_guards Arms from x s)) z in
          let same = again_within Arms c t r from x s (again_place z) (again_place_lt z) in
          told_of v (rules_of P (choosing true Arms) r from) from (again_place z) (core_rule (v (from + 1)) (v (from + 5)) hs ans x.core z)
          (core_rule x.turn x.leave hs ans x.core z)
          (ap (λ b. core_rule b (v (from + 5)) hs ans x.core z) turned_at ∙ ap (λ b. core_rule x.turn b hs ans x.core z) leave_at) (record {
            now = round_at Arms c t r from x s (again_place z) (again_place_lt z) ∙ again_now (v (from + 1)) (v (from + 5)) hs ans x z;
            up = ap (λ (y : NodeRules). guard_holds v y.up) same ∙ here.up;
            down = ap (λ (y : NodeRules). guard_holds v y.down) same ∙ here.down;
          })

      again_round_is : (z : RoundSpot)
          → Told v (rules_of P (choosing true Arms) r from) from (round_place z) (turning_rule (v r) (heads Arms x.core.guards) x z)
      again_round_is z =
          let hs = heads Arms x.core.guards in
          let here =
          round_told v (repeating_at P Arms r from) x hs (choice_answers Arms x.core.branches) (round_at Arms c t r from x s 2 (omega arith)) leave_at
          turned_at (round_at Arms c t r from x s 4 (omega arith)) (again_latched Arms c t r from x s)
          (answers_at Arms c t (bodies_from Arms again_own from) x.core.branches (again_choices Arms from x s))
          (heads_at Arms t (guards_from Arms again_own from) x.core.guards (again_guards Arms from x s)) z in
          let same = again_within Arms c t r from x s (round_place z) (round_place_lt (choice_count Arms) z) in
          record {
            now = round_at Arms c t r from x s (round_place z) (round_place_lt (choice_count Arms) z) ∙ round_now (v r) hs x z;
            up = ap (λ (y : NodeRules). guard_holds v y.up) same ∙ here.up;
            down = ap (λ (y : NodeRules). guard_holds v y.down) same ∙ here.down;
          }

    -- the rules of the own nodes, where the channels' acknowledges stand at their numbers
    module _ (w : Seen) (acks : (k : ℕ) → k < length P.channels → v (ack_at P k) ≡ w.ack (of_channel k))
        (puts : (x : ℕ) → x < length P.vars → v (written_at P x) ≡ w.ack (of_var x))
        (bits_are : (x i : ℕ) (one : Bool) → x < length P.vars → i < var_width P.vars x → v (node_of (pair_of (bits_at P x) i) one) ≡ w.bit x i one)
        (rails_are : (k i : ℕ) (one : Bool) → k < length P.channels → i < channel_width P.channels k
        → v (channel_from P k + rail_place i one) ≡ w.rail (of_channel k) i one) where
      gate_told : (r from i : ℕ) (one : Bool) (e : Formula) → IsWellFormed e → ReadsFrom P.vars e → (g : Pairs (gate_count e)) → i < gate_count e
          → Stands v from (pair_bits (gate_count e) g)
          → Told v (formula_rules (bits_at P) e r from) from (rail_place i one) (gate_rule e w.bit (v r) g i one)
      gate_told r from i one e formed read g h s =
          let t = (listed P.vars e formed read).told (bits_at P) (has_bits P) r from v (v r) w.bit g (record {
            asked = refl;
            gates = λ k side less. gate_value v (gate_count e) g from k side less s;
            read = λ x k side z less. bits_are x k side (read_declared P e read x z) less;
          }) i one h in
          record { now = t.now; up = t.up; down = t.down }

      guard_told : (choices : Choices) → AreChoices P.channels P.vars choices → (r from : ℕ) (x : GuardCells choices) (z : GuardSpot choices) → IsFineGuard z
          → Stands v from (guard_bits choices x) → Told v (net_guards P choices r from) from (guard_place z) (guards_rule choices w.bit (v r) x z)
      guard_told no_choices t r from x z f s = elim z [ ]
      guard_told (and_choice g p more) t r from x (this_gate i one) f s =
          let here = formula_rules (bits_at P) g r from in
          let rest = net_guards P more r (from + formula_size g) in
          told_within v here (here ++ rest) from (rail_place i one) from (rail_place i one) (gate_rule g w.bit (v r) x.0 i one)
          (get_or_append_left here rest no_rules (rail_place i one) (omega (
            arith,
            rail_place_lt i (gate_count g) one f,
            count_doubled g,
            rules_length P.vars (bits_at P) (has_bits P) g r from t.0.formed t.0.reads,
          ))) refl
          (gate_told r from i one g t.0.formed t.0.reads x.0 f (stands_before v from (pair_bits (gate_count g) x.0) (guard_bits more x.1) s))
      guard_told (and_choice g p more) t r from x (other_gate z) f s =
          let here = formula_rules (bits_at P) g r from in
          let rest = net_guards P more r (from + formula_size g) in
          told_within v rest (here ++ rest) (from + formula_size g) (guard_place z) from (formula_size g + guard_place z)
          (guards_rule more w.bit (v r) x.1 z)
          (behind_rules here rest (formula_size g) (guard_place z) (rules_length P.vars (bits_at P) (has_bits P) g r from t.0.formed t.0.reads)) (omega arith)
          (guard_told more t.2 r (from + formula_size g) x.1 z f
          (stands_after v from (from + formula_size g) (pair_bits (gate_count g) x.0) (guard_bits more x.1) s
          (omega (arith, length-pair_bits (gate_count g) x.0, count_doubled g))))

      -- a guard's gate and a branch's node, among the rules of the statement
      guard_within : (own : List NodeRules) (choices : Choices) → AreChoices P.channels P.vars choices → (bodies : List NodeRules) (m r from to : ℕ) (b : Bool)
          (x : GuardCells choices) (z : GuardSpot choices) → IsFineGuard z → length own ≡ m → from + m ≡ to → v r ≡ b → Stands v to (guard_bits choices x)
          → Told v (own ++ (net_guards P choices r to ++ bodies)) from (m + guard_place z) (guards_rule choices w.bit b x z)
      guard_within own choices t bodies m r from to b x z f long at e s =
          let here = net_guards P choices r to in
          told_of v (own ++ (here ++ bodies)) from (m + guard_place z) (guards_rule choices w.bit (v r) x z) (guards_rule choices w.bit b x z)
          (ap (λ y. guards_rule choices w.bit y x z) e)
          (told_within v here (own ++ (here ++ bodies)) to (guard_place z) from (m + guard_place z) (guards_rule choices w.bit (v r) x z)
          (behind_rules own (here ++ bodies) m (guard_place z) long
          ∙ get_or_append_left here bodies no_rules (guard_place z) (omega (arith, guard_place_lt choices z f, guards_length counted P choices r to t)))
          (omega (arith, at))
          (guard_told choices t r to x z f s))

      choice_within : (own : List NodeRules) (choices : Choices) → AreChoices P.channels P.vars choices → (bodies : List NodeRules) (m r from to body k : ℕ)
          (rule : Rule) → length own ≡ m → from + m ≡ to → to + guards_size choices ≡ body → Told v bodies body k rule
          → Told v (own ++ (net_guards P choices r to ++ bodies)) from (m + (guards_size choices + k)) rule
      choice_within own choices t bodies m r from to body k rule long at behind told =
          let here = net_guards P choices r to in
          told_within v bodies (own ++ (here ++ bodies)) body k from (m + (guards_size choices + k)) rule
          (behind_rules own (here ++ bodies) m (guards_size choices + k) long
          ∙ behind_rules here bodies (guards_size choices) k (guards_length counted P choices r to t)) (omega (arith, at, behind)) told

      mutual
        pub rule_is : (p : Process) → ReadsNoTarget p → IsProcess P.channels P.vars p → (r from : ℕ) (x : Cells p) (s : Spot p) → IsFine P p s
            → Stands v from (bits P p x) → Told v (rules_of P p r from) from (place P p s) (rule p w (v r) x s)
        rule_is skipping c t r from x of_skip f s = record { now = s.at 0 (omega arith); up = one_high v r; down = one_low v r }
        rule_is (sending chan at e) c t r from x (of_send done) f s = record {
          now = s.at 0 (omega arith);
          up = both_high v r (ack_at P chan) ∙ ap (λ z. v r && z) (acks chan t.within);
          down = one_low v (ack_at P chan) ∙ ap not (acks chan t.within);
        }
        rule_is (sending chan at e) c t r from x (of_send (gate i one)) f s =
            told_within v (formula_rules (bits_at P) e r (from + 1)) (rules_of P (sending chan at e) r from) (from + 1) (rail_place i one) from
            (suc (rail_place i one)) (gate_rule e w.bit (v r) x.gates i one) refl (omega arith)
            (gate_told r (from + 1) i one e t.sent.formed t.sent.reads x.gates f
            (stands_after v from (from + 1) (x.answer ∷ []) (pair_bits (gate_count e) x.gates) s (omega arith)))
        rule_is (in_turn members) c t r from x (in_members z) f s = turn_rule_is members c t.1 r from x z f s
        rule_is (repeating p) c t r from x of_loop f s = record { now = s.at 0 (omega arith); up = refl; down = refl }
        rule_is (repeating p) c t r from x ask f s =
            let d = answer_is p c t (from + 2) x.inner (stands_body p from x s) in
            record {
              now = s.at 1 (omega arith);
              up = high_and_low v r (number.answer_of P p (from + 2)) ∙ ap (λ b. v r && not b) d;
              down = one_high v (number.answer_of P p (from + 2)) ∙ d;
            }
        rule_is (repeating p) c t r from x (in_body z) f s =
            let b : v (from + 1) ≡ x.ask = s.at 1 (omega arith) in
            told_of v (rules_of P (repeating p) r from) from (suc (suc (place P p z))) (rule p w (v (from + 1)) x.inner z) (rule p w x.ask x.inner z)
            (ap (λ b. rule p w b x.inner z) b)
            (told_within v (rules_of P p (from + 1) (from + 2)) (rules_of P (repeating p) r from) (from + 2) (place P p z) from (suc (suc (place P p z)))
            (rule p w (v (from + 1)) x.inner z) refl (omega arith)
            (rule_is p c t (from + 1) (from + 2) x.inner z f (stands_body p from x s)))
        rule_is (assigning y at e) c t r from x (of_assign done) f s =
            told_as v (rules_of P (assigning y at e) r from) (write_answer r (written_at P y) ∷ formula_rules (bits_at P) e r (from + 1)) from 0
            (rule_of x.answer (v r && w.ack (of_var y)) (not (w.ack (of_var y)))) (plain_rules y at e c r from) (record {
              now = s.at 0 (omega arith);
              up = both_high v r (written_at P y) ∙ ap (λ z. v r && z) (puts y t.0);
              down = one_low v (written_at P y) ∙ ap not (puts y t.0);
            })
        rule_is (assigning y at e) c t r from x (of_assign (gate i one)) f s =
            told_as v (rules_of P (assigning y at e) r from) (write_answer r (written_at P y) ∷ formula_rules (bits_at P) e r (from + 1)) from
            (suc (rail_place i one)) (gate_rule e w.bit (v r) x.gates i one) (plain_rules y at e c r from)
            (told_within v (formula_rules (bits_at P) e r (from + 1)) (write_answer r (written_at P y) ∷ formula_rules (bits_at P) e r (from + 1)) (from + 1)
            (rail_place i one) from (suc (rail_place i one)) (gate_rule e w.bit (v r) x.gates i one) refl (omega arith)
            (gate_told r (from + 1) i one e t.1.formed t.1.reads x.gates f
            (stands_after v from (from + 1) (x.answer ∷ []) (pair_bits (gate_count e) x.gates) s (omega arith))))
        rule_is (receiving chan at y to) c t r from x (of_receive heard) f s = record {
          now = s.at 0 (omega arith);
          up = both_high v r (ack_at P chan) ∙ ap (λ z. v r && z) (acks chan t.within);
          down = one_low v (ack_at P chan) ∙ ap not (acks chan t.within);
        }
        rule_is (receiving chan at y to) c t r from x (of_receive stored) f s = record {
          now = s.at 1 (omega arith);
          up = both_high v r (written_at P y) ∙ ap (λ z. v r && z) (puts y t.target);
          down = one_low v (written_at P y) ∙ ap not (puts y t.target);
        }
        rule_is (receiving chan at y to) c t r from x (of_receive (taking i one)) f s =
            let n = channel_width P.channels chan in
            let e = port_rule_at r n (channel_from P chan) i one f in
            let rail = rails_are chan i one t.within f in
            let q = rail_value v n x.taken (from + 2) i one f (stands_after v from (from + 2) (x.answer ∷ x.kept ∷ []) (rail_bits n x.taken) s (omega arith)) in
            record {
              now = ap v (let z : from + suc (suc (rail_place i one)) ≡ from + 2 + rail_place i one = omega arith in z) ∙ q;
              up = ap (λ (z : NodeRules). guard_holds v z.up) e ∙ (both_high v r (channel_from P chan + rail_place i one) ∙ ap (λ z. v r && z) rail);
              down = ap (λ (z : NodeRules). guard_holds v z.down) e ∙ (both_low v r (channel_from P chan + rail_place i one)
                  ∙ ap (λ z. not (v r) && not z) rail);
            }
        rule_is (side_by_side members) c t r from x (of_branch z) f s =
            let here = branches_rules P members r from in
            let rest = tree_rules (branch_ends P members from) (branches_end P members from) in
            told_within v here (rules_of P (side_by_side members) r from) from (branch_place P members z) from (branch_place P members z)
            (branch_rule members w (v r) x.branches z)
            (get_or_append_left here rest no_rules (branch_place P members z)
            (omega (arith, branch_place_lt P members c z f, length-branches_rules members c t.1 r from))) refl
            (branch_rule_is members c t.1 r from x.branches z f (stands_branches members from x s))
        rule_is (side_by_side members) c t r from x (joint k) f s =
            let here = branches_rules P members r from in
            let rest = tree_rules (branch_ends P members from) (branches_end P members from) in
            told_within v rest (rules_of P (side_by_side members) r from) (from + branches_size P members) k from (branches_size P members + k)
            (tree_rule (member_count members) (cell_ends members x.branches) (cell_bit (joint_count (member_count members)) x.tree) k)
            (ap (λ n. get_or (here ++ rest) (n + k) no_rules) (sym (length-branches_rules members c t.1 r from)) ∙ get_or-append-add here rest k no_rules)
            (omega arith)
            (joint_told members c from x k f s)
        rule_is (choosing false choices) c t r from x (of_core z) f s = select_own_is choices c t.2 t.0 r from x s z
        rule_is (choosing false choices) c t r from x (of_guard z) f s =
            guard_within (select_rules (choosing_at P choices r (from + 2) select_own from)) choices t.2
            (bodies_rules P choices (from + select_own + choice_count choices) (bodies_from choices select_own from))
            (3 + (choice_count choices + choice_count choices)) (from + 1) from (guards_from choices select_own from) x.ask x.guards z f
            (select_length choices t.2 r from) (omega arith) (own_at choices c t.2 t.0 r from x s 1 (omega arith)) (stands_guards choices from x s)
        rule_is (choosing false choices) c t r from x (of_choice z) f s =
            choice_within (select_rules (choosing_at P choices r (from + 2) select_own from)) choices t.2
            (bodies_rules P choices (from + select_own + choice_count choices) (bodies_from choices select_own from))
            (3 + (choice_count choices + choice_count choices)) (from + 1) from (guards_from choices select_own from) (bodies_from choices select_own from)
            (choice_place P choices z) (choice_rule choices w x.started x.branches z) (select_length choices t.2 r from) (omega arith) refl
            (choice_rule_is choices c t.2 (from + select_own + choice_count choices) (bodies_from choices select_own from) x.started x.branches z f
            (started_at choices c t.2 t.0 r from x s) (stands_choices choices from x s))
        rule_is (choosing true (and_choice g p more)) c t r from x (of_core z) f s = again_own_is g p more c t.2 r from x s z
        rule_is (choosing true (and_choice g p more)) c t r from x (of_round z) f s = again_round_is g p more c t.2 r from x s z
        rule_is (choosing true (and_choice g p more)) c t r from x (of_guard z) f s =
            let choices : Choices = and_choice g p more in
            guard_within (again_rules (repeating_at P choices r from)) choices t.2
            (bodies_rules P choices (from + again_own + choice_count choices) (bodies_from choices again_own from))
            (6 + (choice_count choices + choice_count choices)) (from + 3) from (guards_from choices again_own from) x.core.ask x.core.guards z f
            (again_length choices t.2 r from) (omega arith) (round_at choices c t.2 r from x s 3 (omega arith)) (again_guards choices from x s)
        rule_is (choosing true (and_choice g p more)) c t r from x (of_choice z) f s =
            let choices : Choices = and_choice g p more in
            choice_within (again_rules (repeating_at P choices r from)) choices t.2
            (bodies_rules P choices (from + again_own + choice_count choices) (bodies_from choices again_own from))
            (6 + (choice_count choices + choice_count choices)) (from + 3) from (guards_from choices again_own from) (bodies_from choices again_own from)
            (choice_place P choices z) (choice_rule choices w x.core.started x.core.branches z) (again_length choices t.2 r from) (omega arith) refl
            (choice_rule_is choices c t.2 (from + again_own + choice_count choices) (bodies_from choices again_own from) x.core.started x.core.branches z f
            (again_started choices c t.2 r from x s) (again_choices choices from x s))
        rule_is (choosing true no_choices) c t r from x z f s = absurd (let e : 1 ≤ 0 = t.0 in let g : ⊥ = omega (arith, e) in g)

        choice_rule_is : (choices : Choices) → ChoicesReadNoTarget choices → AreChoices P.channels P.vars choices →
            (start from : ℕ) (b : Bits (choice_count choices))
            (x : ChoiceCells choices) (z : ChoiceSpot choices) → IsFineChoice P choices z
            → BitsAt (choice_count choices) v (range_with_len start (choice_count choices)) b → Stands v from (choice_bits P choices x)
            → Told v (bodies_rules P choices start from) from (choice_place P choices z) (choice_rule choices w b x z)
        choice_rule_is no_choices c t start from b x z f a s = elim z [ ]
        choice_rule_is (and_choice g p more) c t start from b x (this_choice z) f a s =
            let here = rules_of P p start from in
            let rest = bodies_rules P more (start + 1) (from + size_of P p) in
            told_of v (here ++ rest) from (place P p z) (rule p w (v start) x.0 z) (rule p w b.0 x.0 z) (ap (λ y. rule p w y x.0 z) a.0)
            (told_within v here (here ++ rest) from (place P p z) from (place P p z) (rule p w (v start) x.0 z)
            (get_or_append_left here rest no_rules (place P p z) (omega (arith, place_lt P p c.0 z f, length-rules p c.0 t.1 start from))) refl
            (rule_is p c.0 t.1 start from x.0 z f (stands_this_choice p from g more x s)))
        choice_rule_is (and_choice g p more) c t start from b x (other_choice z) f a s =
            let here = rules_of P p start from in
            let rest = bodies_rules P more (start + 1) (from + size_of P p) in
            told_within v rest (here ++ rest) (from + size_of P p) (choice_place P more z) from (size_of P p + choice_place P more z)
            (choice_rule more w b.1 x.1 z)
            (behind_rules here rest (size_of P p) (choice_place P more z) (length-rules p c.0 t.1 start from)) (omega arith)
            (choice_rule_is more c.1 t.2 (start + 1) (from + size_of P p) b.1 x.1 z f a.1 (stands_other_choice p from g more c.0 x s))

        pub branch_rule_is : (members : Processes) → EachReadsNoTarget members → AreProcesses P.channels P.vars members
            → (r from : ℕ) (x : BranchCells members) (s : BranchSpot members) → IsFineBranch P members s → Stands v from (branch_bits P members x)
            → Told v (branches_rules P members r from) from (branch_place P members s) (branch_rule members w (v r) x s)
        branch_rule_is no_members c t r from x z f s = elim z [ ]
        branch_rule_is (and_member p more) c t r from x (in_this child) f s =
            let u : v (from + 1) ≡ x.0.latch = s.at 1 (omega arith) in
            record { now = s.at 0 (omega arith); up = high_and_low v r (from + 1) ∙ ap (λ b. v r && not b) u; down = one_high v (from + 1) ∙ u }
        branch_rule_is (and_member p more) c t r from x (in_this latch) f s =
            let d = answer_is p c.0 t.0 (from + 3) x.0.inner (stands_this p more from x s) in
            record { now = s.at 1 (omega arith); up = one_high v (number.answer_of P p (from + 3)) ∙ d; down = one_low v r }
        branch_rule_is (and_member p more) c t r from x (in_this next) f s =
            let u : v (from + 1) ≡ x.0.latch = s.at 1 (omega arith) in
            let d = answer_is p c.0 t.0 (from + 3) x.0.inner (stands_this p more from x s) in
            record {
              now = s.at 2 (omega arith);
              up = high_and_low v (from + 1) (number.answer_of P p (from + 3))
                  ∙ (ap (λ b. b && not (v (number.answer_of P p (from + 3)))) u ∙ ap (λ b. x.0.latch && not b) d);
              down = one_low v (from + 1) ∙ ap not u;
            }
        branch_rule_is (and_member p more) c t r from x (in_this (inner z)) f s =
            let b : v from ≡ x.0.child = stands_head v from x.0.child (x.0.latch ∷ x.0.next ∷ (bits P p x.0.inner ++ branch_bits P more x.1)) s in
            let here = rules_of P p from (from + 3) in
            let rest = branches_rules P more r (from + 3 + size_of P p) in
            let k = place P p z in
            told_of v (branches_rules P (and_member p more) r from) from (suc (suc (suc k))) (rule p w (v from) x.0.inner z) (rule p w x.0.child x.0.inner z)
            (ap (λ b. rule p w b x.0.inner z) b)
            (told_within v here (branches_rules P (and_member p more) r from) (from + 3) k from (suc (suc (suc k))) (rule p w (v from) x.0.inner z)
            (get_or_append_left here rest no_rules k (omega (arith, place_lt P p c.0 z f, length-rules p c.0 t.0 from (from + 3)))) (omega arith)
            (rule_is p c.0 t.0 from (from + 3) x.0.inner z f (stands_this p more from x s)))
        branch_rule_is (and_member p more) c t r from x (in_others z) f s =
            let here = rules_of P p from (from + 3) in
            let rest = branches_rules P more r (from + 3 + size_of P p) in
            let k = branch_place P more z in
            told_within v rest (branches_rules P (and_member p more) r from) (from + 3 + size_of P p) k from (suc (suc (suc (size_of P p + k))))
            (branch_rule more w (v r) x.1 z)
            (ap (λ n. get_or (here ++ rest) (n + k) no_rules) (sym (length-rules p c.0 t.0 from (from + 3))) ∙ get_or-append-add here rest k no_rules)
            (omega arith)
            (branch_rule_is more c.1 t.1 r (from + 3 + size_of P p) x.1 z f (stands_others p more c.0 from x s))

        pub turn_rule_is : (members : Processes) → EachReadsNoTarget members → AreProcesses P.channels P.vars members
            → (r from : ℕ) (x : TurnCells members) (s : TurnSpot members) → IsFineTurn P members s → Stands v from (turn_bits P members x)
            → Told v (turn_rules P members r from) from (turn_place P members s) (turn_rule members w (v r) x s)
        turn_rule_is no_members c t r from x z f s = elim z [ ]
        turn_rule_is (and_member p no_members) c t r from x (in_last z) f s = rule_is p c.0 t.0 r from x z f s
        turn_rule_is (and_member p (and_member q more)) c t r from x (in_member child) f s =
            let u : v (from + 1) ≡ x.member.latch = s.at 1 (omega arith) in
            record { now = s.at 0 (omega arith); up = high_and_low v r (from + 1) ∙ ap (λ b. v r && not b) u; down = one_high v (from + 1) ∙ u }
        turn_rule_is (and_member p (and_member q more)) c t r from x (in_member latch) f s =
            let d = answer_is p c.0 t.0 (from + 3) x.member.inner (stands_member p q more from x s) in
            record { now = s.at 1 (omega arith); up = one_high v (number.answer_of P p (from + 3)) ∙ d; down = one_low v r }
        turn_rule_is (and_member p (and_member q more)) c t r from x (in_member next) f s =
            let u : v (from + 1) ≡ x.member.latch = s.at 1 (omega arith) in
            let d = answer_is p c.0 t.0 (from + 3) x.member.inner (stands_member p q more from x s) in
            record {
              now = s.at 2 (omega arith);
              up = high_and_low v (from + 1) (number.answer_of P p (from + 3))
                  ∙ (ap (λ b. b && not (v (number.answer_of P p (from + 3)))) u ∙ ap (λ b. x.member.latch && not b) d);
              down = one_low v (from + 1) ∙ ap not u;
            }
        turn_rule_is (and_member p (and_member q more)) c t r from x (in_member (inner z)) f s =
            let b : v from ≡ x.member.child = stands_head v from x.member.child
            (x.member.latch ∷ x.member.next ∷ (bits P p x.member.inner ++ turn_bits P (and_member q more) x.later)) s in
            let here = rules_of P p from (from + 3) in
            let rest = turn_rules P (and_member q more) (from + 2) (from + 3 + size_of P p) in
            let k = place P p z in
            told_of v (turn_rules P (and_member p (and_member q more)) r from) from (suc (suc (suc k))) (rule p w (v from) x.member.inner z)
            (rule p w x.member.child x.member.inner z) (ap (λ b. rule p w b x.member.inner z) b)
            (told_within v here (turn_rules P (and_member p (and_member q more)) r from) (from + 3) k from (suc (suc (suc k)))
            (rule p w (v from) x.member.inner z)
            (get_or_append_left here rest no_rules k (omega (arith, place_lt P p c.0 z f, length-rules p c.0 t.0 from (from + 3)))) (omega arith)
            (rule_is p c.0 t.0 from (from + 3) x.member.inner z f (stands_member p q more from x s)))
        turn_rule_is (and_member p (and_member q more)) c t r from x (in_later z) f s =
            let b : v (from + 2) ≡ x.member.next = s.at 2 (omega arith) in
            let here = rules_of P p from (from + 3) in
            let rest = turn_rules P (and_member q more) (from + 2) (from + 3 + size_of P p) in
            let k = turn_place P (and_member q more) z in
            told_of v (turn_rules P (and_member p (and_member q more)) r from) from (suc (suc (suc (size_of P p + k))))
            (turn_rule (and_member q more) w (v (from + 2)) x.later z) (turn_rule (and_member q more) w x.member.next x.later z)
            (ap (λ b. turn_rule (and_member q more) w b x.later z) b)
            (told_within v rest (turn_rules P (and_member p (and_member q more)) r from) (from + 3 + size_of P p) k from (suc (suc (suc (size_of P p + k))))
            (turn_rule (and_member q more) w (v (from + 2)) x.later z)
            (ap (λ n. get_or (here ++ rest) (n + k) no_rules) (sym (length-rules p c.0 t.0 from (from + 3))) ∙ get_or-append-add here rest k no_rules)
            (omega arith)
            (turn_rule_is (and_member q more) c.1 t.1 (from + 2) (from + 3 + size_of P p) x.later z f (stands_later p q more c.0 from x s)))
