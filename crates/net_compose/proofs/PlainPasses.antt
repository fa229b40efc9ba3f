-- The net of a program whose assignments don't read their own target passes what the program does.
use Rattle.std.proofs.Common.{◌≡◌, ◌≢◌, ℕ, zero, suc, ◌+◌, ◌<◌, ◌≤◌, ◌==◌, Bool, true, false, List, [], ◌∷◌, ◌++◌, length, get_or, replicate, None, inl, inr, refl, sym, ap, ◌∙◌, subst, arith, ◌⊎◌, ◌*◌, ⊎_elim, append-nil}
use Rattle.std.specs.Prelude.{not, ◌&&◌, ◌||◌, if◌then◌else◌, is_some, nat_lt}
use Rattle.std.proofs.lemmas.Bool.{cases_lt, eqb-true, and_from}
use Rattle.std.proofs.lemmas.Bool.Decides.{nat_tests}
use Rattle.chp_base.specs.declared.channel.Channel.{Channel}
use Rattle.chp_base.specs.declared.channel.Kind.TheVariants.{In}
use Rattle.prs_core.specs.Pairs.{rails_of}
use Rattle.prs_core.specs.Moves.{high, both_ways, neutral}
use Rattle.env_script.specs.Scripts.{OfferValue, IsScript}
use Rattle.env_script.specs.Environment.{valid}
use Rattle.env_script.specs.Phases.{rail_keeps, rails_keep, ack_keeps, phases_keep, phase_fault}
use Rattle.env_script.specs.Runs.{RunState, move_enabled, IsRun, after, begin_at, IsApart, IsSafeRun, moved as moved_flat, IsAtRest as IsAtRestFlat}
use Rattle.width_check.specs.Processes.{Process, skipping, assigning, sending, receiving, in_turn, side_by_side, choosing, repeating, Processes, no_members, and_member, member_count, TypedProgram, Choices, no_choices, and_choice}
use Rattle.width_check.specs.Typing.{channel_width, var_width}
use Rattle.width_check.specs.declared.typed.Var.{Var}
use Rattle.circuit_places.specs.Lines.{of_channel, of_var}
use Rattle.net_compose.proofs.FlatTrees.{joint_count_is}
use Rattle.net_compose.proofs.FlatBlocks.{Part, a_bit, a_put, a_mark, a_joint, IsPart, offset, side}
use Rattle.net_compose.proofs.FlatFirst.{member, raised, raised_is, length-raised, HighRail, high_at, high_member, high_there}
use Rattle.handshake_expand.specs.Layout.{wires_before, var_from, channel_from, nodes_of, size_of, body_from, root_request, root_latch}
use Rattle.chp_meaning.specs.Halves.{IsPlain, ReadsNoTarget, EachReadsNoTarget, ChoicesReadNoTarget}
use Rattle.circuit_places.specs.Circuit.{of_receive, heard, stored, taking, low, Spot, TurnSpot, BranchSpot, of_branch, joint, in_this, in_others, joint_count, child, latch, next, inner, of_skip, done, gate, of_assign, of_send, in_members, of_loop, ask, in_body, in_last, in_member, in_later, gate_count, stands, turn_stands, branch_stands, GuardSpot, this_gate, other_gate, ChoiceSpot, this_choice, other_choice, of_core, of_guard, of_choice, of_round, guard_stands, choice_stands}
use Rattle.circuit_places.specs.Whole.{first_bits, Whole, Node, go_node, own_node, rail_node, ack_node, bit_node, wrote_node, joint_node, is_node, enabled, cells_moved, first_cells, neutral_on, Reaches, at_first, by_move}
use Rattle.chp_meaning.specs.Steps.{Configuration, Leads, start_of}
use Rattle.circuit_places.specs.Bounds.{circuit_most}
use Rattle.circuit_places.specs.Carried.{CellsRest, IsCarried, CircuitsCarry}
use Rattle.handshake_expand.specs.Sites.{sites_in, sites_in_turn, sites_in_branches, sites_in_bodies}
use Rattle.net_compose.specs.Translation.{translation, hidden_high, vars_high, first_values, rails_at, ack_at, wires_from}
use Rattle.cell_variable.specs.Variables.{high_first}
use Rattle.net_compose.proofs.Passing.{IsPassing, IsPassingRun, Passes, IsPaid}
use Rattle.net_compose.proofs.FlatCells.{length-bits, low_bits, IsFine, IsFineTurn, IsFineBranch, IsFineGuard, IsFineChoice, rail_place}
use Rattle.net_compose.proofs.FlatWires.{rail_bounds, ack_bounds, value_is, neutral_is, rails_kept, position_none, length-wires_from, wires_are}
use Rattle.net_compose.proofs.FlatNet.{part_bounds, same_var, same_part, part_value, Given, Shows, number_of, Fine, node_at, enabled_is, apart_is, past_apart, past_end, after_move}
use Rattle.handshake_expand.specs.Answers.{bodies_from, select_own, again_own}
use Rattle.prs_core.specs.declared.wires.Wires.{Wires as NetWires}

-- a node that stands is one of the net's

below_told : (i n : ℕ) → nat_lt i n ≡ true → i < n
below_told i n h = grind (arith, nat_tests)

fine_guard : {choices : Choices} (s : GuardSpot choices) → guard_stands s ≡ true → IsFineGuard s
fine_guard (this_gate {g = g} i one) h = below_told i (gate_count g) h
fine_guard (other_gate s) h = fine_guard s h

mutual
  fine_spot : (P : TypedProgram) (p : Process) (s : Spot p) → stands P.channels s ≡ true → IsFine P p s
  fine_spot P skipping of_skip h = tt
  fine_spot P (sending chan at e) (of_send done) h = tt
  fine_spot P (sending chan at e) (of_send (gate i one)) h = below_told i (gate_count e) h
  fine_spot P (in_turn members) (in_members s) h = fine_turn P members s h
  fine_spot P (repeating p) of_loop h = tt
  fine_spot P (repeating p) ask h = tt
  fine_spot P (repeating p) (in_body s) h = fine_spot P p s h
  fine_spot P (assigning x at e) (of_assign done) h = tt
  fine_spot P (assigning x at e) (of_assign (gate i one)) h = below_told i (gate_count e) h
  fine_spot P (receiving k at x to) (of_receive heard) h = tt
  fine_spot P (receiving k at x to) (of_receive stored) h = tt
  fine_spot P (receiving k at x to) (of_receive (taking i one)) h = below_told i (channel_width P.channels k) h
  fine_spot P (side_by_side members) (of_branch s) h = fine_branch P members s h
  fine_spot P (side_by_side members) (joint k) h = below_told k (joint_count (member_count members)) h
  fine_spot P (choosing again choices) (of_core s) h = tt
  fine_spot P (choosing again choices) (of_guard s) h = fine_guard s h
  fine_spot P (choosing again choices) (of_choice s) h = fine_choice P choices s h
  fine_spot P (choosing true choices) (of_round s) h = tt

  fine_choice : (P : TypedProgram) (choices : Choices) (s : ChoiceSpot choices) → choice_stands P.channels s ≡ true → IsFineChoice P choices s
  fine_choice P no_choices s h = elim s [ ]
  fine_choice P (and_choice g p more) (this_choice s) h = fine_spot P p s h
  fine_choice P (and_choice g p more) (other_choice s) h = fine_choice P more s h

  fine_branch : (P : TypedProgram) (members : Processes) (s : BranchSpot members) → branch_stands P.channels s ≡ true → IsFineBranch P members s
  fine_branch P no_members s h = elim s [ ]
  fine_branch P (and_member p more) (in_this child) h = tt
  fine_branch P (and_member p more) (in_this latch) h = tt
  fine_branch P (and_member p more) (in_this next) h = tt
  fine_branch P (and_member p more) (in_this (inner s)) h = fine_spot P p s h
  fine_branch P (and_member p more) (in_others s) h = fine_branch P more s h

  fine_turn : (P : TypedProgram) (members : Processes) (s : TurnSpot members) → turn_stands P.channels s ≡ true → IsFineTurn P members s
  fine_turn P no_members s h = elim s [ ]
  fine_turn P (and_member p no_members) (in_last s) h = fine_spot P p s h
  fine_turn P (and_member p (and_member q more)) (in_member child) h = tt
  fine_turn P (and_member p (and_member q more)) (in_member latch) h = tt
  fine_turn P (and_member p (and_member q more)) (in_member next) h = tt
  fine_turn P (and_member p (and_member q more)) (in_member (inner s)) h = fine_spot P p s h
  fine_turn P (and_member p (and_member q more)) (in_later s) h = fine_turn P (and_member q more) s h

has_width : (cs : List Channel) (k i : ℕ) → i < channel_width cs k → k < length cs
has_width [] k i h = absurd (omega (arith, h))
has_width (c ∷ cs) zero i h = omega arith
has_width (c ∷ cs) (suc k) i h = let r = has_width cs k i h in omega (arith, r)

has_bit : (vs : List Var) (x i : ℕ) → i < var_width vs x → x < length vs
has_bit [] x i h = absurd (omega (arith, h))
has_bit (v ∷ vs) zero i h = omega arith
has_bit (v ∷ vs) (suc x) i h = let r = has_bit vs x i h in omega (arith, r)

has_joint : (vs : List Var) (x k : ℕ) → k < joint_count (var_width vs x) → x < length vs
has_joint vs x k h = has_bit vs x 0 (let e = joint_count_is (var_width vs x) in omega (arith, h, e))

pub fine_node : (P : TypedProgram) (given : Given P) (n : Node P.body) → is_node P n ≡ true → Fine P given n
fine_node P given go_node h = tt
fine_node P given (own_node child) h = tt
fine_node P given (own_node latch) h = tt
fine_node P given (own_node next) h = tt
fine_node P given (own_node (inner s)) h = fine_spot P P.body s h
fine_node P given (rail_node (of_channel k) i one) h = let lt = below_told i (channel_width P.channels k) h in (has_width P.channels k i lt, lt)
fine_node P given (ack_node k) h = below_told k (length P.channels) h
fine_node P given (rail_node (of_var x) i one) h = let lt = below_told i (var_width P.vars x) h in (has_bit P.vars x i lt, lt)
fine_node P given (bit_node x i one) h = let lt = below_told i (var_width P.vars x) h in (has_bit P.vars x i lt, lt)
fine_node P given (wrote_node x i) h = let lt = below_told i (var_width P.vars x) h in (has_bit P.vars x i lt, lt)
fine_node P given (joint_node x k) h = let lt = below_told k (joint_count (var_width P.vars x)) h in (has_joint P.vars x k lt, lt)

-- the first state

mutual
  pub none_hidden : (P : TypedProgram) (p : Process) → ReadsNoTarget p → (from : ℕ) → sites_in P (hidden_high P) p from ≡ []
  none_hidden P skipping c from = refl
  none_hidden P (sending k at e) c from = refl
  none_hidden P (in_turn members) c from = none_hidden_turn P members c from
  none_hidden P (repeating p) c from = none_hidden P p c (from + 2)
  none_hidden P (assigning x at e) c from = ap (λ b. if b then high_first (var_width P.vars x) 0 from else []) c
  none_hidden P (receiving k at x to) c from = refl
  none_hidden P (side_by_side members) c from = none_hidden_branches P members c from
  none_hidden P (choosing false choices) c from = none_hidden_choices P choices c (bodies_from choices select_own from)
  none_hidden P (choosing true choices) c from = none_hidden_choices P choices c (bodies_from choices again_own from)

  none_hidden_choices : (P : TypedProgram) (choices : Choices) → ChoicesReadNoTarget choices → (from : ℕ) → sites_in_bodies P (hidden_high P) choices from ≡ []
  none_hidden_choices P no_choices c from = refl
  none_hidden_choices P (and_choice g p more) c from =
      ap (λ l. l ++ sites_in_bodies P (hidden_high P) more (from + size_of P p)) (none_hidden P p c.0 from)
      ∙ none_hidden_choices P more c.1 (from + size_of P p)

  none_hidden_branches : (P : TypedProgram) (members : Processes) → EachReadsNoTarget members → (from : ℕ) →
      sites_in_branches P (hidden_high P) members from ≡ []
  none_hidden_branches P no_members c from = refl
  none_hidden_branches P (and_member p more) c from =
      ap (λ l. l ++ sites_in_branches P (hidden_high P) more (from + 3 + size_of P p)) (none_hidden P p c.0 (from + 3))
      ∙ none_hidden_branches P more c.1 (from + 3 + size_of P p)

  none_hidden_turn : (P : TypedProgram) (members : Processes) → EachReadsNoTarget members → (from : ℕ) → sites_in_turn P (hidden_high P) members from ≡ []
  none_hidden_turn P no_members c from = refl
  none_hidden_turn P (and_member p no_members) c from = none_hidden P p c.0 from
  none_hidden_turn P (and_member p (and_member q more)) c from =
      ap (λ l. l ++ sites_in_turn P (hidden_high P) (and_member q more) (from + 3 + size_of P p)) (none_hidden P p c.0 (from + 3))
      ∙ none_hidden_turn P (and_member q more) c.1 (from + 3 + size_of P p)

pub all_low_at : (n i : ℕ) → get_or (replicate n false) i false ≡ false
all_low_at zero i = refl
all_low_at (suc n) zero = refl
all_low_at (suc n) (suc i) = all_low_at n i

length-replicated : (n : ℕ) → length (replicate n false) ≡ n
length-replicated zero = refl
length-replicated (suc n) = ap suc (length-replicated n)

length-histories : (n : ℕ) → length (replicate {A = List ℕ} n []) ≡ n
length-histories zero = refl
length-histories (suc n) = ap suc (length-histories n)

module _ (P : TypedProgram) (given : Given P) where
  first_is : first_values P ≡ raised (replicate (nodes_of P) false) (vars_high P 0 P.vars)
  first_is =
      ap (λ l. raised (replicate (nodes_of P) false) (vars_high P 0 P.vars ++ l)) (none_hidden P P.body given.covered (body_from P))
      ∙ ap (raised (replicate (nodes_of P) false)) (append-nil (vars_high P 0 P.vars))

  high_is : (m : ℕ) → m < nodes_of P → high (first_values P) m ≡ member m (vars_high P 0 P.vars)
  high_is m h =
      ap (λ l. high l m) first_is
      ∙ (raised_is (vars_high P 0 P.vars) (replicate (nodes_of P) false) m (omega (arith, h, length-replicated (nodes_of P)))
      ∙ ap (λ b. b || member m (vars_high P 0 P.vars)) (all_low_at (nodes_of P) m))

  -- beside the blocks all are low
  low_there : (m : ℕ) → m < nodes_of P → (m < 2 + wires_before P.channels (length P.channels)) ⊎ (root_request P ≤ m) → high (first_values P) m ≡ false
  low_there m h where_m = high_is m h ∙ by (member m (vars_high P 0 P.vars)) refl
    where
      apart : HighRail P 0 P.vars m → (m < 2 + wires_before P.channels (length P.channels)) ⊎ (root_request P ≤ m) → ⊥
      apart r (inl below) = let e = part_bounds P given r.var (a_bit r.bit r.one) r.some r.below in let z = high_at P m r in omega (arith, below, e.0, z)
      apart r (inr above) = let e = part_bounds P given r.var (a_bit r.bit r.one) r.some r.below in let z = high_at P m r in omega (arith, above, e.1, z)

      by : (b : Bool) → member m (vars_high P 0 P.vars) ≡ b → b ≡ false
      by true e = absurd (apart (high_member P 0 P.vars m e) where_m)
      by false e = refl

  block_there : (y : ℕ) (b : Part) → y < length P.vars → IsPart (var_width P.vars y) b
      → high (first_values P) (var_from P y + offset (var_width P.vars y) b) ≡ part_value P given (first_cells P).wires y b
  block_there y b hy hb =
      let e = part_bounds P given y b hy hb in
      high_is (var_from P y + offset (var_width P.vars y) b) (omega (arith, e.1))
      ∙ by (member (var_from P y + offset (var_width P.vars y) b) (vars_high P 0 P.vars)) refl
    where
      found : HighRail P 0 P.vars (var_from P y + offset (var_width P.vars y) b) → part_value P given (first_cells P).wires y b ≡ true
      found r =
          let u = same_var P given r.var y (a_bit r.bit r.one) b r.some hy r.below hb (high_at P (var_from P y + offset (var_width P.vars y) b) r) in
          let below : r.bit < var_width P.vars y = subst (λ (n : ℕ). r.bit < var_width P.vars n) u r.below in
          let q = same_part P given y (a_bit r.bit r.one) b below hb (sym (ap (λ n. var_from P n + (5 * r.bit + side r.one)) u)
          ∙ high_at P (var_from P y + offset (var_width P.vars y) b) r) in
          ap (part_value P given (first_cells P).wires y) (sym q) ∙ (ap (λ n. first_bits P.vars n r.bit r.one) (sym u) ∙ r.high)

      none : (b : Part) → member (var_from P y + offset (var_width P.vars y) b) (vars_high P 0 P.vars) ≡ false
          → part_value P given (first_cells P).wires y b ≡ false
      none (a_put i one) e = refl
      none (a_mark i) e = refl
      none (a_joint k) e = refl
      none (a_bit i one) e = low (first_bits P.vars y i one) refl
        where
          low : (z : Bool) → first_bits P.vars y i one ≡ z → z ≡ false
          low true h = absurd (cc (
            e,
            ap (λ n. member (var_from P n + (5 * i + side one)) (vars_high P 0 P.vars)) (let g : y ≡ 0 + y = omega arith in g)
                ∙ high_there P 0 P.vars y i one h,
          ))
          low false h = refl

      by : (z : Bool) → member (var_from P y + offset (var_width P.vars y) b) (vars_high P 0 P.vars) ≡ z → z ≡ part_value P given (first_cells P).wires y b
      by true e = sym (found (high_member P 0 P.vars (var_from P y + offset (var_width P.vars y) b) e))
      by false e = sym (none b e)

  pub starts : Shows P given (begin_at (translation P) (translation P).first) (first_cells P)
  starts = record {
    count = ap length first_is ∙ (length-raised (vars_high P 0 P.vars) (replicate (nodes_of P) false) ∙ length-replicated (nodes_of P));
    go = low_there 0 (omega arith) (inl (omega arith));
    done = low_there 1 (omega arith) (inl (omega arith));
    child = low_there (root_request P) (omega arith) (inr (omega arith));
    latch = low_there (root_latch P) (omega arith) (inr (omega arith));
    body = record {
      at = λ i h. low_there (body_from P + i) (let e = length-bits P P.body given.covered (low P.body) in omega (arith, h, e)) (inr (omega arith))
          ∙ sym (ap (λ l. get_or l i false) (low_bits P P.body given.covered) ∙ all_low_at (size_of P P.body) i);
    };
    rail = λ k i one hk hi. let e = rail_bounds P k i one hk hi in low_there (channel_from P k + rail_place i one) (omega (arith, e.1)) (inl e.1);
    ack = λ k hk. let e = ack_bounds P k hk in low_there (ack_at P k) (omega (arith, e.1)) (inl e.1);
    block = block_there;
    histories = ap (λ n. replicate n []) (length-wires_from P 0 P.channels);
    channels = length-histories (length P.channels);
  }

  module _ (script : List OfferValue) (fits : IsScript P.channels script) where
    -- a state of the net, as one of the cells that as many moves lead to
    pub record Reached (st : RunState) (moves : ℕ) : Type 0 where
      pub cells : Whole P.body
      pub reaches : Reaches P script moves cells
      pub shows : Shows P given st cells

    pub record Moving (st : RunState) (moves : ℕ) (r : Reached st moves) (n : ℕ) : Type 0 where
      pub node : Node P.body
      pub fine : Fine P given node
      pub is : number_of P given node ≡ n
      pub may : enabled P script r.cells node ≡ true

    pub moving : (st : RunState) (moves : ℕ) (r : Reached st moves) (n : ℕ) → move_enabled (translation P) script st n ≡ true → Moving st moves r n
    moving st moves r n on =
        ⊎_elim
        (λ (lt : n < nodes_of P).
        let q = node_at P given n lt in
        let here : Moving st moves r n = record {
          node = q.node;
          fine = q.fine;
          is = q.is;
          may = sym (enabled_is P given st r.cells r.shows script q.node q.fine) ∙ (ap (move_enabled (translation P) script st) q.is ∙ on);
        } in
        here)
        (λ (le : nodes_of P ≤ n). absurd (cc (past_end P given st r.cells r.shows script n le, on)))
        (cases_lt n (nodes_of P))

    pub next_shows : (st : RunState) (moves : ℕ) (r : Reached st moves) (n : ℕ) (m : Moving st moves r n)
        → Shows P given (moved_flat (translation P) st n) (cells_moved P r.cells m.node)
    next_shows st moves r n m = subst (λ i. Shows P given (moved_flat (translation P) st i) (cells_moved P r.cells m.node)) m.is
        (after_move P given st r.cells r.shows m.node m.fine)

    one_more : (st : RunState) (moves : ℕ) → Reached st moves → (n : ℕ) → move_enabled (translation P) script st n ≡ true
        → Reached (moved_flat (translation P) st n) (suc moves)
    one_more st moves r n on =
        let m = moving st moves r n on in
        record { cells = cells_moved P r.cells m.node; reaches = by_move m.node r.reaches m.may; shows = next_shows st moves r n m }

    reach : (ns : List ℕ) (st : RunState) (moves : ℕ) → Reached st moves → IsRun (translation P) script st ns
        → Reached (after (translation P) st ns) (moves + length ns)
    reach [] st moves r run = let e : moves ≡ moves + 0 = omega arith in subst (λ k. Reached st k) e r
    reach (n ∷ ns) st moves r run =
        let e : suc moves + length ns ≡ moves + suc (length ns) = omega arith in
        subst (λ k. Reached (after (translation P) (moved_flat (translation P) st n) ns) k) e
        (reach ns (moved_flat (translation P) st n) (suc moves) (one_more st moves r n run.0) run.1)

    -- each run leads to such a state
    pub arrived : (ns : List ℕ) → IsRun (translation P) script (begin_at (translation P) (translation P).first) ns
        → Reached (after (translation P) (begin_at (translation P) (translation P).first) ns) (length ns)
    arrived ns run =
        let first : Reached (begin_at (translation P) (translation P).first) 0 = record { cells = first_cells P; reaches = at_first; shows = starts } in
        let e : 0 + length ns ≡ length ns = omega arith in
        subst (λ k. Reached (after (translation P) (begin_at (translation P) (translation P).first) ns) k) e
        (reach ns (begin_at (translation P) (translation P).first) 0 first run)

    module _ (carried : (moves : ℕ) (x : Whole P.body) → Reaches P script moves x → IsCarried P script moves x) where
      apart : (st : RunState) (moves : ℕ) → Reached st moves → IsApart (translation P) st
      apart st moves r n =
          let safe = (carried moves r.cells r.reaches).safe in
          ⊎_elim
          (λ (lt : n < nodes_of P).
          let q = node_at P given n lt in
          ap (both_ways (translation P) (high st.values)) (sym q.is) ∙ apart_is P given st r.cells r.shows q.node q.fine (safe.apart q.node))
          (λ (le : nodes_of P ≤ n). past_apart P given st n le)
          (cases_lt n (nodes_of P))

      stable : (st : RunState) (moves : ℕ) → Reached st moves → (n : ℕ) → move_enabled (translation P) script st n ≡ true → (m : ℕ) → m ≢ n
          → move_enabled (translation P) script st m ≡ true → move_enabled (translation P) script (moved_flat (translation P) st n) m ≡ true
      stable st moves r n on m ne there =
          let safe = (carried moves r.cells r.reaches).safe in
          let p = moving st moves r n on in
          let q = moving st moves r m there in
          let still = safe.stable q.node p.node (λ (e : q.node ≡ p.node). ne (sym q.is ∙ (ap (number_of P given) e ∙ p.is))) q.may p.may in
          ap (move_enabled (translation P) script (moved_flat (translation P) st n)) (sym q.is)
          ∙ (enabled_is P given (moved_flat (translation P) st n) (cells_moved P r.cells p.node) (next_shows st moves r n p) script q.node q.fine ∙ still)

      -- each channel keeps its phases
      module _ (st : RunState) (moves : ℕ) (r : Reached st moves) (n : ℕ) (on : move_enabled (translation P) script st n ≡ true) where
        may_rail : (k i : ℕ) (one : Bool) → k < length P.channels → i < channel_width P.channels k → n ≡ channel_from P k + rail_place i one
            → enabled P script r.cells (rail_node (of_channel k) i one) ≡ true
        may_rail k i one hk hi e = sym (enabled_is P given st r.cells r.shows script (rail_node (of_channel k) i one) (hk, hi))
            ∙ (ap (move_enabled (translation P) script st) (sym e) ∙ on)

        may_ack : (k : ℕ) → k < length P.channels → n ≡ ack_at P k → enabled P script r.cells (ack_node k) ≡ true
        may_ack k hk e = sym (enabled_is P given st r.cells r.shows script (ack_node k) hk) ∙ (ap (move_enabled (translation P) script st) (sym e) ∙ on)

        rail_keeps_phase : (k i : ℕ) (one : Bool) → k < length P.channels → i < channel_width P.channels k → n ≡ channel_from P k + rail_place i one
            → rail_keeps (high st.values) (ack_at P k) (channel_from P k + rail_place i one) (channel_from P k + rail_place i (not one)) ≡ true
        rail_keeps_phase k i one hk hi e =
            let safe = (carried moves r.cells r.reaches).safe in
            let s = r.shows in
            let w = r.cells.wires in
            ap (λ b. if b then high st.values (ack_at P k) else not (high st.values (ack_at P k)) && not
            (high st.values (channel_from P k + rail_place i (not one)))) (s.rail k i one hk hi)
            ∙ (ap (λ b. if w.rail (of_channel k) i one then b else not b && not (high st.values (channel_from P k + rail_place i (not one)))) (s.ack k hk)
            ∙ (ap (λ b. if w.rail (of_channel k) i one then w.ack k else not (w.ack k) && not b) (s.rail k i (not one) hk hi)
            ∙ by_value (w.rail (of_channel k) i one) (w.ack k) (w.rail (of_channel k) i (not one)) (λ low. safe.rail_up k i one low (may_rail k i one hk hi e))
            (λ up. safe.rail_down k i one up (may_rail k i one hk hi e))))
          where
            by_value : (b a o : Bool) → (b ≡ false → (a ≡ false) × (o ≡ false)) → (b ≡ true → a ≡ true) → (if b then a else not a && not o) ≡ true
            by_value true a o up down = down refl
            by_value false a o up down = let z = up refl in ap (λ c. not c && not o) z.0 ∙ ap not z.1

        ack_keeps_phase : (k : ℕ) → k < length P.channels → n ≡ ack_at P k → ack_keeps (high st.values) (ack_at P k) (rails_of (rails_at P k)) ≡ true
        ack_keeps_phase k hk e =
            let safe = (carried moves r.cells r.reaches).safe in
            let s = r.shows in
            let w = r.cells.wires in
            let width = channel_width P.channels k in
            let rails : (i : ℕ) (one : Bool) → i < width → high st.values (channel_from P k + rail_place i one) ≡ w.rail
            (of_channel k) i one = λ i one lt. s.rail k i one hk lt in
            ap (λ b. if b then neutral (high st.values) (rails_of (rails_at P k)) else valid (high st.values) (rails_of (rails_at P k))) (s.ack k hk)
            ∙ (ap (λ b. if w.ack k then b else valid (high st.values) (rails_of (rails_at P k)))
            (neutral_is (high st.values) width (channel_from P k) (w.rail (of_channel k)) rails)
            ∙ (ap (λ o. if w.ack k then neutral_on width (w.rail (of_channel k)) else is_some o)
            (value_is (high st.values) width (channel_from P k) (w.rail (of_channel k)) rails)
            ∙ by_value (w.ack k) (λ up. safe.ack_down k up (may_ack k hk e)) (λ low. safe.ack_up k low (may_ack k hk e))))
          where
            by_value : {x y : Bool} → (a : Bool) → (a ≡ true → x ≡ true) → (a ≡ false → y ≡ true) → (if a then x else y) ≡ true
            by_value true down up = down refl
            by_value false down up = up refl

        no_channel : NetWires
        no_channel = record { channel = record { name = []; kind = In; width = 0 }; rails = []; ack = 0 }

        channel_keeps : (k : ℕ) → k < length P.channels → phases_keep (high st.values) (get_or (wires_from P 0 P.channels) k no_channel) n ≡ true
        channel_keeps k hk =
            let w = wires_are P 0 P.channels k no_channel hk in
            let z : 0 + k ≡ k = omega arith in
            let a : (get_or (wires_from P 0 P.channels) k no_channel).ack ≡ ack_at P k = w.1 ∙ ap (ack_at P) z in
            let b : (get_or (wires_from P 0 P.channels) k no_channel).rails ≡ rails_of (rails_at P k) = w.0 ∙ ap (λ j. rails_of (rails_at P j)) z in
            ap (λ l. rails_keep (high st.values) (get_or (wires_from P 0 P.channels) k no_channel).ack l n &&
            (not (n == (get_or (wires_from P 0 P.channels) k no_channel).ack) || ack_keeps (high st.values)
            (get_or (wires_from P 0 P.channels) k no_channel).ack l)) b
            ∙ (ap (λ m. rails_keep (high st.values) m (rails_of (rails_at P k)) n && (not (n == m) || ack_keeps (high st.values) m (rails_of (rails_at P k)))) a
            ∙ and_from (rails_keep (high st.values) (ack_at P k) (rails_of (rails_at P k)) n)
            (not (n == ack_at P k) || ack_keeps (high st.values) (ack_at P k) (rails_of (rails_at P k)))
            (rails_kept (high st.values) (channel_width P.channels k) (channel_from P k) (ack_at P k) n (λ i one lt e. rail_keeps_phase k i one hk lt e))
            (by_test (n == ack_at P k) (λ e. ack_keeps_phase k hk (eqb-true n (ack_at P k) e))))
          where
            by_test : {x : Bool} → (b : Bool) → (b ≡ true → x ≡ true) → (not b || x) ≡ true
            by_test true f = f refl
            by_test false f = refl

        in_phase : phase_fault (translation P) (high st.values) n ≡ None
        in_phase = position_none (λ (w : NetWires). not (phases_keep (high st.values) w n)) (wires_from P 0 P.channels) no_channel
            (λ k lt. ap not (channel_keeps k (omega (arith, lt, length-wires_from P 0 P.channels))))

      safe_run : (ns : List ℕ) (st : RunState) (moves : ℕ) → Reached st moves → IsRun (translation P) script st ns → IsSafeRun (translation P) script st ns
      safe_run [] st moves r run = apart st moves r
      safe_run (n ∷ ns) st moves r run = (
        apart st moves r,
        record { stable = λ m ne there. stable st moves r n run.0 m ne there; phases = in_phase st moves r n run.0 },
        safe_run ns (moved_flat (translation P) st n) (suc moves) (one_more st moves r n run.0) run.1,
      )

      at_rest : (st : RunState) (moves : ℕ) (r : Reached st moves) → IsAtRestFlat (translation P) script st → CellsRest P script r.cells
      at_rest st moves r still n stands_there =
          let f = fine_node P given n stands_there in
          sym (enabled_is P given st r.cells r.shows script n f) ∙ still (number_of P given n)

      passing : (st : RunState) (moves : ℕ) → Reached st moves → IsPassing (translation P) P script st moves
      passing st moves r =
          let q = carried moves r.cells r.reaches in
          record {
            to = q.to;
            steps = q.steps;
            within = q.within;
            leads = q.leads;
            passed = q.passed ∙ sym r.shows.histories;
            rest = λ still. let z = q.rest (at_rest st moves r still) in
                record { still = z.still; ended = λ h. z.ended (sym r.shows.done ∙ h); going = λ h. z.going (sym r.shows.done ∙ h) };
          }

      passing_run : (ns : List ℕ) → IsRun (translation P) script (begin_at (translation P) (translation P).first) ns → IsPassingRun (translation P) P script ns
      passing_run ns run =
          let first : Reached (begin_at (translation P) (translation P).first) 0 = record { cells = first_cells P; reaches = at_first; shows = starts } in
          record {
            safe = safe_run ns (begin_at (translation P) (translation P).first) 0 first run;
            passing = passing (after (translation P) (begin_at (translation P) (translation P).first) ns) (length ns) (arrived ns run);
          }

      paid_run : (ns : List ℕ) → IsRun (translation P) script (begin_at (translation P) (translation P).first) ns
          → (n : ℕ) × (d : Configuration) × Leads (start_of P script) n d
          × (d.histories ≡ (after (translation P) (begin_at (translation P) (translation P).first) ns).histories) × (length ns ≤ circuit_most P * suc n)
      paid_run ns run =
          let first : Reached (begin_at (translation P) (translation P).first) 0 = record { cells = first_cells P; reaches = at_first; shows = starts } in
          let e : 0 + length ns ≡ length ns = omega arith in
          let last : Reached (after (translation P) (begin_at (translation P) (translation P).first) ns) (length ns) = subst
          (λ k. Reached (after (translation P) (begin_at (translation P) (translation P).first) ns) k) e
          (reach ns (begin_at (translation P) (translation P).first) 0 first run) in
          let q = carried (length ns) last.cells last.reaches in
          let shows = last.shows in
          (q.steps, q.to, q.leads, q.passed ∙ sym shows.histories, q.paid)

-- the net of a program whose assignments don't read their own target passes what the program does
pub plain_passes : CircuitsCarry → (P : TypedProgram) → Given P → IsPlain P → Passes (translation P) P
plain_passes circuits P given plain script fits ns run = passing_run P given script fits (λ k x r. circuits P plain script fits k x r) ns run

-- and moves each node twice at most between two steps of it
pub plain_paid : CircuitsCarry → (P : TypedProgram) → Given P → IsPlain P → IsPaid (translation P) P (circuit_most P)
plain_paid circuits P given plain script fits ns run = paid_run P given script fits (λ k x r. circuits P plain script fits k x r) ns run
