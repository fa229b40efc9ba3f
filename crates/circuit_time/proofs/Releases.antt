-- What moves where the request of a statement falls that has answered: moves that are among those of its `back`.
--
-- P: the program; K: how many moves follow the falls of lines; a, t, b: where a statement, a sequence and branches are; env: what they see;
-- f: that the cells fit it; s: a spot; e: that its rule fires once the request is low.
use Rattle.std.proofs.Common.{◌≡◌, ℕ, suc, ◌+◌, ◌-◌, ◌≤◌, Bool, true, false, List, refl, ap, ◌∙◌, arith}
use Rattle.std.specs.Prelude.{not, ◌&&◌, if◌then◌else◌, max, is_some}
use Rattle.std.proofs.Math.Nat.{le-max_left, le-max_right, max-le}
use Rattle.width_check.specs.Processes.{Formula, Process, choosing, Processes, member_count, Choices, no_choices, and_choice, choice_count, TypedProgram}
use Rattle.width_check.specs.Typing.{kind_at, channel_width}
use Rattle.function_blocks.specs.Rails.{Pairs, side_of, pair_in, one_rule_fires}
use Rattle.function_blocks.specs.Parts.{gate_count}
use Rattle.function_blocks.specs.Waves.{full, gate_rule}
use Rattle.circuit_places.specs.Lines.{Line, of_channel, of_var, Rails, Seen}
use Rattle.circuit_places.specs.Whole.{value_on, neutral_on}
use Rattle.circuit_places.specs.Heads.{Index, top, under, Bits, bit_of, hot, alone}
use Rattle.circuit_places.specs.Cores.{of_joined, of_ask, of_any, of_latch, of_start, of_answer, of_turn, of_leave}
use Rattle.circuit_places.specs.Circuit.{ChoiceCells, low_guards, SiteSpot, done, gate, PortSpot, heard, stored, taking, child, latch, next, inner, Spot, of_skip, of_assign, of_send, of_receive, in_members, of_branch, joint, of_core, of_guard, of_choice, of_round, BranchSpot, in_this, in_others, TurnSpot, in_last, in_member, in_later, site_rule, port_rule, rule, turn_rule, branch_rule, heads}
use Rattle.circuit_places.proofs.HeadFacts.{some_hot, neutral_alone}
use Rattle.circuit_places.proofs.Flow.{Clean, not_both}
use Rattle.circuit_places.proofs.Begin.{answered_all, answered_kept, answered_ack, answered_va, answered_moves, turn_answered_moves, chosen_answered_moves}
use Rattle.circuit_places.proofs.Places.{Mode, idle, running, answered, returning, all_ask, all_ack, SiteMay, g_past, At, at_skip, at_assign, at_send, at_receive, at_turn, at_side, at_choice, at_closing, control_at, inside_at, BranchesAt, no_more, and_at, TurnAt, at_last, at_later, chosen_index, chosen_cells, cells, branch_cells, turn_cells, site_of, port_of, SiteFits, PortFits, Fits, TurnFits, low_quiet, can_is, turn_can_is, chosen_can_is, low_guards_quiet, low_neutral}
use Rattle.circuit_places.proofs.CoreControl.{reported, told_all}
use Rattle.round_time.specs.Longest.{depth, tree_height, var_height}
use Rattle.circuit_time.proofs.Trails.{Clearing, rail_left, rail_ahead, gate_depth, back, turn_back, choice_back, site_trail, port_trail, latch_trail, trail, turn_trail, branch_trail}
use Rattle.circuit_time.proofs.Depths.{depth_most, depth_some}

-- a latch that falls is one of those that the request lets go
pub choice_least : (P : TypedProgram) (K : Clearing) (any down : ℕ) (choices : Choices) (b : Bits (choice_count choices)) (x : ChoiceCells choices)
    → 2 + any ≤ choice_back P K any down choices b x
choice_least P K any down no_choices b x = omega arith
choice_least P K any down (and_choice g p more) b x =
    let a = choice_least P K any down more b.1 x.1 in
    let c = le-max_right (if b.0 then 2 + back P K down p x.0 else 0) (choice_back P K any down more b.1 x.1) in
    omega (arith, a, c)

pub latch_among : (P : TypedProgram) (K : Clearing) (any down : ℕ) (choices : Choices) (b : Bits (choice_count choices)) (x : ChoiceCells choices)
    (i : Index (choice_count choices)) → bit_of i b ≡ true → suc (latch_trail P K any down choices x i) ≤ choice_back P K any down choices b x
latch_among P K any down no_choices b x i e = elim i [ ]
latch_among P K any down (and_choice g p more) b x top e =
    let a = choice_least P K any down more b.1 x.1 in
    let c = le-max_right (if b.0 then 2 + back P K down p x.0 else 0) (choice_back P K any down more b.1 x.1) in
    let d = le-max_left (if b.0 then 2 + back P K down p x.0 else 0) (choice_back P K any down more b.1 x.1) in
    let z : (if b.0 then 2 + back P K down p x.0 else 0) ≡ 2 + back P K down p x.0 = ap (λ (y : Bool). if y then 2 + back P K down p x.0 else 0) e in
    let m : max (1 + any) (1 + back P K down p x.0) ≤ choice_back P K any down (and_choice g p more) b x - 1 =
    max-le (omega (arith, a, c)) (omega (arith, d, z)) in
    omega (arith, m, a, c)
latch_among P K any down (and_choice g p more) b x (under i) e =
    let a = latch_among P K any down more b.1 x.1 i e in
    let c = le-max_right (if b.0 then 2 + back P K down p x.0 else 0) (choice_back P K any down more b.1 x.1) in
    omega (arith, a, c)

-- a gate falls
high_side : (side : Bool) → (if side then true else false) ≡ true → side ≡ true
high_side true e = refl
high_side false e = absurd (cc e)

gate_released : (P : TypedProgram) (env : Seen) → Clean P env → (k : Line) (e : Formula) (u : Pairs (gate_count e)) → SiteMay e answered u
    → SiteFits k e answered u env → (left ahead : ℕ) (i : ℕ) (one : Bool) → one_rule_fires (gate_rule e env.bit false u i one) ≡ true
    → suc ((depth e - gate_depth e i) + (if side_of (pair_in (gate_count e) u i) one then left else ahead)) ≤ depth e + left
gate_released P env clean k e u h f left ahead i one z =
    let g = h.known.ease env.bit u clean.single f.1 (answered_all (full e u) h.may) in
    let law = high_side (side_of (pair_in (gate_count e) u i) one) (h.known.law false env.bit u i one clean.single g z) in
    let a = depth_some e env.bit false u i one z in
    let b = depth_most e i in
    let c : (if side_of (pair_in (gate_count e) u i) one then left else ahead) ≡ left = ap (λ (y : Bool). if y then left else ahead) law in
    omega (arith, a, b, c)

site_released : (P : TypedProgram) (env : Seen) → Clean P env → (k : Line) (e : Formula) (u : Pairs (gate_count e)) → SiteMay e answered u
    → SiteFits k e answered u env → (up down left ahead : ℕ) (s : SiteSpot e)
    → one_rule_fires (site_rule e env.bit (env.ack k) false (site_of e true u) s) ≡ true
    → suc (site_trail e up down left ahead (site_of e true u) s) ≤ depth e + left
site_released P env clean k e u h f up down left ahead done z = absurd (cc (f.0, z))
site_released P env clean k e u h f up down left ahead (gate i one) z = gate_released P env clean k e u h f left ahead i one z

-- a receive lets go of a rail
takes_less : (b rail : Bool) (h v : ℕ) → (if b then not false && not rail else false && rail) ≡ true → suc (if b then 2 + h + v else 5 + h) ≤ 3 + h + v
takes_less true rail h v z = omega arith
takes_less false rail h v z = absurd (cc z)

port_released : (env : Seen) (c x : ℕ) (k : Bool) (q : Rails) → PortFits c x answered k q env → (up down h f v : ℕ) (s : PortSpot)
    → one_rule_fires (port_rule (env.rail (of_channel c)) (env.ack (of_channel c)) (env.ack (of_var x)) false (port_of true k q) s) ≡ true
    → suc (port_trail up down h f v (port_of true k q) s) ≤ 3 + h + v
port_released env c x k q fits up down h f v heard z =
    let a = answered_ack k (env.ack (of_channel c)) (env.ack (of_var x)) (is_some (value_on (env.width (of_var x)) q))
    (neutral_on (env.width (of_var x)) q) fits.ends in absurd (not_both (ap not a) z)
port_released env c x k q fits up down h f v stored z = absurd (by k (env.ack (of_var x))
    (answered_kept k (env.ack (of_channel c)) (env.ack (of_var x)) (is_some (value_on (env.width (of_var x)) q)) (neutral_on (env.width
    (of_var x)) q) fits.ends)
    (answered_va k (env.ack (of_channel c)) (env.ack (of_var x)) (is_some (value_on (env.width (of_var x)) q)) (neutral_on (env.width
    (of_var x)) q) fits.ends) z)
  where
    by : (k va : Bool) → k ≡ true → va ≡ true → (if k then not va else false && va) ≡ true → ⊥
    by true true a b z = cc z
    by true false a b z = cc b
    by false va a b z = cc a
port_released env c x k q fits up down h f v (taking i one) z = takes_less (q i one) (env.rail (of_channel c) i one) h v z

-- branches that have all ended
branch_released : (P : TypedProgram) (K : Clearing) (plus minus : ℕ) {members : Processes} {ks : List Mode} (env : Seen) (b : BranchesAt members ks)
    → all_ask true ks ≡ true → all_ack ks ≡ true → (s : BranchSpot members) → one_rule_fires (branch_rule members env false (branch_cells b) s) ≡ true
    → branch_trail P K plus minus members (branch_cells b) s ≤ 1 + minus
branch_released P K plus minus env no_more h k s e = elim s [ ]
branch_released P K plus minus env (and_at {k = idle} g b) h k s e = absurd (cc h)
branch_released P K plus minus env (and_at {k = running} g b) h k s e = absurd (cc k)
branch_released P K plus minus env (and_at {k = returning} g b) h k s e = absurd (cc h)
branch_released P K plus minus env (and_at {k = answered} g_past b) h k (in_this child) e = absurd (cc e)
branch_released P K plus minus env (and_at {k = answered} g_past b) h k (in_this latch) e = omega arith
branch_released P K plus minus env (and_at {k = answered} g_past b) h k (in_this next) e = absurd (cc e)
branch_released P K plus minus env (and_at {p = p} {k = answered} g_past b) h k (in_this (inner s)) e = absurd (not_both (low_quiet p env s) e)
branch_released P K plus minus env (and_at {k = answered} g b) h k (in_others s) e = branch_released P K plus minus env b h k s e

-- a latch of a selection
latch_released : (P : TypedProgram) (K : Clearing) (any down : ℕ) (choices : Choices) (b : Bits (choice_count choices)) (x : ChoiceCells choices)
    (i : Index (choice_count choices)) → (alone i (heads choices (low_guards choices)) ≡ false)
    → (if bit_of i b then not false else alone i (heads choices (low_guards choices))) ≡ true
    → suc (latch_trail P K any down choices x i) ≤ choice_back P K any down choices b x
latch_released P K any down choices b x i none z = by (bit_of i b) refl z
  where
    by : (c : Bool) → bit_of i b ≡ c → (if c then not false else alone i (heads choices (low_guards choices))) ≡ true
        → suc (latch_trail P K any down choices x i) ≤ choice_back P K any down choices b x
    by true e z = latch_among P K any down choices b x i e
    by false e z = absurd (not_both none z)

start_still : (b z : Bool) → (if b then not b else (b && z)) ≡ true → ⊥
start_still true z e = cc e
start_still false z e = cc e

module _ (P : TypedProgram) (K : Clearing) where
  mutual
    pub released : (held down : ℕ) {p : Process} (env : Seen) → Clean P env → (a : At p answered) → Fits a env → (s : Spot p)
        → one_rule_fires (rule p env false (cells a) s) ≡ true → suc (trail P K held down p (cells a) s) ≤ back P K down p (cells a)
    released held down env clean (at_skip _ h) f of_skip e = omega arith
    released held down env clean (at_assign {x = x} {e = d} _ u h) f (of_assign s) e =
        site_released P env clean (of_var x) d u h f (held + (depth d + (2 + var_height P x + K.written x))) down (2 + var_height P x + K.written x)
        (3 + var_height P x) s e
    released held down env clean (at_send {c = c} {e = d} _ u h) f (of_send s) e =
        site_released P env clean (of_channel c) d u h f (held + (depth d + rail_left (kind_at P.channels c) (K.acked c) (K.taken c))) down
        (rail_left (kind_at P.channels c) (K.acked c) (K.taken c)) (rail_ahead (kind_at P.channels c) (tree_height (channel_width P.channels c))) s e
    released held down env clean (at_receive {c = c} {x = x} _ k q h) f (of_receive s) e =
        port_released env c x k q f (held + (3 + var_height P x + K.written x)) down (var_height P x) (K.acked c) (K.written x) s e
    released held down env clean (at_turn t) f (in_members s) e = turn_released held down env clean t f s e
    released held down env clean (at_side {members = members} _ t b h) f (of_branch s) e =
        let z = branch_released P K (tree_height (member_count members) + (held + (2 + tree_height (member_count members) + down)))
        (tree_height (member_count members) + down) env b h.asked (h.all refl) s e in
        omega (arith, z)
    released held down env clean (at_side _ t b h) f (joint k) e =
        let a = at_side answered t b h in absurd (not_both (can_is env a (joint k) ∙ answered_moves P env clean a f (joint k)) e)
    released held down env clean (at_choice (control_at c)) f s e = elim c [ ]
    released held down env clean (at_choice (inside_at a reported)) f (of_core of_joined) e = absurd (cc e)
    released held down env clean (at_choice (inside_at a reported)) f (of_core of_ask) e = absurd (cc e)
    released held down env clean (at_choice (inside_at a reported)) f (of_core of_any) e = absurd (not_both (ap not (some_hot (chosen_index a) true)) e)
    released held down env clean (at_choice {choices = choices} (inside_at a reported)) f (of_core (of_latch i)) e =
        latch_released P K (1 + down) (1 + down) choices (hot (chosen_index a) true) (chosen_cells a) i
        (neutral_alone i (heads choices (low_guards choices)) (low_neutral choices)) e
    released held down env clean (at_choice (inside_at a reported)) f (of_core (of_start i)) e = absurd (start_still (bit_of i (hot (chosen_index a) true)) _ e)
    released held down env clean (at_choice {choices = choices} (inside_at a reported)) f (of_guard s) e =
        absurd (not_both (low_guards_quiet choices env.bit s) e)
    released held down env clean (at_choice (inside_at a reported)) f (of_choice s) e =
        absurd (not_both (chosen_can_is env a s ∙ chosen_answered_moves P env clean a f s) e)
    released held down {p = choosing true choices} env clean (at_closing told_all) f (of_core s) e =
        absurd (not_both (can_is env (at_closing told_all) (of_core s) ∙ answered_moves P env clean (at_closing told_all) tt (of_core s)) e)
    released held down {p = choosing true choices} env clean (at_closing told_all) f (of_guard s) e = absurd (not_both (low_guards_quiet choices env.bit s) e)
    released held down {p = choosing true choices} env clean (at_closing told_all) f (of_choice s) e =
        absurd (not_both (can_is env (at_closing told_all) (of_choice s) ∙ answered_moves P env clean (at_closing told_all) tt (of_choice s)) e)
    released held down env clean (at_closing told_all) f (of_round of_turn) e = omega arith
    released held down env clean (at_closing told_all) f (of_round of_answer) e = absurd (cc e)
    released held down env clean (at_closing told_all) f (of_round of_leave) e = absurd (cc e)

    pub turn_released : (held down : ℕ) {members : Processes} (env : Seen) → Clean P env → (t : TurnAt members answered) → TurnFits t env
        → (s : TurnSpot members) → one_rule_fires (turn_rule members env false (turn_cells t) s) ≡ true
        → suc (turn_trail P K held down members (turn_cells t) s) ≤ turn_back P K down members (turn_cells t)
    turn_released held down env clean (at_last a) f (in_last s) e = released held down env clean a f s e
    turn_released held down env clean (at_later {k = answered} {n = answered} g_past t h) f (in_member child) e = absurd (cc e)
    turn_released held down env clean (at_later {k = answered} {n = answered} g_past t h) f (in_member latch) e = omega arith
    turn_released held down env clean (at_later {k = answered} {n = answered} g_past t h) f (in_member next) e = absurd (cc e)
    turn_released held down env clean (at_later {p = p} {k = answered} {n = answered} g_past t h) f (in_member (inner s)) e =
        absurd (not_both (low_quiet p env s) e)
    turn_released held down env clean (at_later {k = answered} {n = answered} g_past t h) f (in_later s) e =
        absurd (not_both (turn_can_is env t s ∙ turn_answered_moves P env clean t f s) e)
    turn_released held down env clean (at_later {k = k} {n = n} g t h) f s e = absurd (cc h)
