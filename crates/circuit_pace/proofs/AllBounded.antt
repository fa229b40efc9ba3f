-- Each trail of an own node that may move is two less than the bound at most.
--
-- P: the program; L: the bound; K: how many moves follow the falls of lines; p, q, more: statements; held, down: as in trails; w: the
-- context; r: the request; x: values of nodes; s: a spot; z: that its rule fires.
use Rattle.std.proofs.Common.{◌≡◌, ℕ, suc, ◌+◌, ◌-◌, ◌≤◌, Bool, true, false, ap, subst, arith}
use Rattle.std.specs.Prelude.{if◌then◌else◌, max}
use Rattle.std.proofs.Math.Nat.{le-max_left, max-le}
use Rattle.chp_base.specs.declared.channel.Kind.{Kind}
use Rattle.chp_base.specs.declared.channel.Kind.TheVariants.{In, Out, Chan}
use Rattle.width_check.specs.Processes.{Formula, Process, skipping, assigning, sending, receiving, in_turn, side_by_side, choosing, repeating, Processes, no_members, and_member, member_count, Choices, no_choices, and_choice, choice_count, TypedProgram}
use Rattle.width_check.specs.Typing.{kind_at, channel_width}
use Rattle.width_check.specs.Reads.{reads}
use Rattle.function_blocks.specs.Rails.{side_of, pair_in, one_rule_fires}
use Rattle.function_blocks.specs.Parts.{gate_count}
use Rattle.function_blocks.specs.Waves.{gate_rule}
use Rattle.circuit_places.specs.Lines.{of_channel, of_var, Rails, Seen}
use Rattle.circuit_places.specs.Heads.{Index, top, under, Bits}
use Rattle.circuit_places.specs.Cores.{of_joined, of_ask, of_any, of_latch, of_start, of_answer, of_turn, of_leave}
use Rattle.circuit_places.specs.Circuit.{Site, Cells, TurnCells, BranchCells, ChoiceCells, GuardCells, QElementCells, joint_count, cell_bit, SiteSpot, done, gate, heard, stored, taking, GuardedSpot, child, latch, next, inner, Spot, of_skip, of_assign, of_send, of_receive, in_members, of_branch, joint, of_loop, ask, in_body, of_core, of_guard, of_choice, of_round, GuardSpot, this_gate, other_gate, ChoiceSpot, this_choice, other_choice, BranchSpot, in_this, in_others, TurnSpot, in_last, in_member, in_later, site_rule, guarded_rule, rule, turn_rule, branch_rule, choice_rule}
use Rattle.circuit_places.proofs.Meets.{Meets, TurnMeets, EachMeets, ChoiceMeets}
use Rattle.round_time.specs.Longest.{depth, guards_depth, tree_height, var_height, send_first, receive_first, assign_first, first, turn_first, each_first, within, choice_within}
use Rattle.round_time.specs.Phases.{choices_first}
use Rattle.circuit_time.proofs.Trails.{Clearing, rail_left, rail_ahead, gate_depth, joint_level, back, turn_back, choice_back, site_trail, guards_trail, latch_trail, start_trail, turn_fall, guarded_trail, trail, choice_trail, branch_trail, turn_trail}
use Rattle.circuit_time.proofs.Depths.{depth_most, depth_some}
use Rattle.circuit_time.proofs.Requests.{first_some}
use Rattle.circuit_time.proofs.OwnTrails.{Covers, TurnCovers, EachCovers, ChoiceCovers}
use Rattle.circuit_pace.proofs.TrailsWithin.{Leaves, Within, TurnWithin, EachWithin, ChoiceWithin, left_of_max, right_of_max, turn_of, last_of, member_of, later_of, each_of, branch_of, branches_of, body_of, select_of, repeat_of, arm_of, arms_of, arms_first, arms_low}
use Rattle.circuit_pace.proofs.TrailsBounded.{assign_room, send_room, receive_room, let_go, turn_let_go, arms_let_go}

-- one of two
either_way : (b : Bool) (i j L : ℕ) → suc (suc i) ≤ L → suc (suc j) ≤ L → suc (suc (if b then i else j)) ≤ L
either_way true i j L a c = a
either_way false i j L a c = c

-- of a site
gate_within : (e : Formula) (bits : ℕ → Rails) (r : Bool) (x : Site (gate_count e)) (left ahead L : ℕ) → suc (depth e + left) ≤ L → depth e + suc ahead ≤ L
    → (k : ℕ) (one : Bool) → one_rule_fires (gate_rule e bits r x.gates k one) ≡ true
    → suc (suc ((depth e - gate_depth e k) + (if side_of (pair_in (gate_count e) x.gates k) one then left else ahead))) ≤ L
gate_within e bits r x left ahead L a b k one z = by (side_of (pair_in (gate_count e) x.gates k) one)
  where
    by : (c : Bool) → suc (suc ((depth e - gate_depth e k) + (if c then left else ahead))) ≤ L
    by true = let s = depth_some e bits r x.gates k one z in let m = depth_most e k in omega (arith, a, s, m)
    by false = let s = depth_some e bits r x.gates k one z in let m = depth_most e k in omega (arith, b, s, m)

site_within : (e : Formula) (bits : ℕ → Rails) (ack r : Bool) (x : Site (gate_count e)) (up down left ahead L : ℕ) → suc (suc up) ≤ L → suc (suc down) ≤ L
    → suc (depth e + left) ≤ L → depth e + suc ahead ≤ L → (s : SiteSpot e) → one_rule_fires (site_rule e bits ack r x s) ≡ true
    → suc (suc (site_trail e up down left ahead x s)) ≤ L
site_within e bits ack r x up down left ahead L a b c d done z = either_way x.answer down up L b a
site_within e bits ack r x up down left ahead L a b c d (gate k one) z = gate_within e bits r x left ahead L c d k one z

guards_within : (deep left L : ℕ) → suc (suc (deep + left)) ≤ L → (cs : Choices) (x : GuardCells cs) (s : GuardSpot cs)
    → suc (suc (guards_trail deep left cs x s)) ≤ L
guards_within deep left L a no_choices x s = omega (arith, a)
guards_within deep left L a (and_choice g p more) x (this_gate k one) = by (side_of (pair_in (gate_count g) x.0 k) one)
  where
    by : (c : Bool) → suc (suc ((deep - gate_depth g k) + (if c then left else 0))) ≤ L
    by true = omega (arith, a)
    by false = omega (arith, a)
guards_within deep left L a (and_choice g p more) x (other_gate s) = guards_within deep left L a more x.1 s

started_within : (P : TypedProgram) (L : ℕ) {held down started : ℕ} (cs : Choices) → 1 ≤ choice_count cs → ChoiceWithin P L held down started cs → started ≤ L
started_within P L no_choices some w = absurd (omega (arith, some))
started_within P L {started = started} (and_choice g p more) some w =
    let b = right_of_max (within P p) (max (started + first P p) (choice_within P started more)) L w.inside in
    let c = left_of_max (started + first P p) (choice_within P started more) L b in omega (arith, c)

module _ (P : TypedProgram) (L : ℕ) (K : Clearing) (leaves : Leaves P K L) where
  -- of sites
  more_left : (k : Kind) (f t : ℕ) → f ≤ t → suc f ≤ rail_left k f t
  more_left Out f t e = omega arith
  more_left In f t e = omega (arith, e)
  more_left Chan f t e = omega (arith, e)

  ahead_first : (k : Kind) (e h : ℕ) → e + suc (rail_ahead k h) ≤ send_first k e h
  ahead_first Out e h = omega arith
  ahead_first In e h = omega arith
  ahead_first Chan e h = omega arith

  heard_first : (k : Kind) (h : ℕ) → 7 + h ≤ receive_first k h
  heard_first Out h = omega arith
  heard_first In h = omega arith
  heard_first Chan h = omega arith

  -- of repetitions
  turn_less : (b : Bool) (down core L : ℕ) → 6 + down ≤ L → 3 + core ≤ L → suc (suc (1 + turn_fall b down core)) ≤ L
  turn_less true down core L a c = omega (arith, a)
  turn_less false down core L a c = omega (arith, c)

  repeat_room : (held down : ℕ) (cs : Choices) → 1 ≤ choice_count cs → Within P L held down (choosing true cs)
      → 3 + (guards_depth cs + max (choices_first P cs) (held + 5 + down)) ≤ L
  repeat_room held down cs some w =
      let a = w.lows in
      let c = arms_first P L cs (repeat_of P L w) (started_within P L cs some (repeat_of P L w)) in
      let m : max (choices_first P cs) (held + 5 + down) ≤ L - (3 + guards_depth cs) = max-le (omega (arith, c)) (omega (arith, a)) in
      omega (arith, m, c)

  -- latches and starts
  latch_within : (held down started any : ℕ) (cs : Choices) → ChoiceMeets P cs → ChoiceCovers P K held down cs → ChoiceWithin P L held down started cs
      → suc (suc (1 + any)) ≤ L → 2 ≤ held → (x : ChoiceCells cs) (i : Index (choice_count cs)) → suc (suc (latch_trail P K any down cs x i)) ≤ L
  latch_within held down started any no_choices meets covers w a h x i = elim i [ ]
  latch_within held down started any (and_choice g p more) meets covers w a h x top =
      let b = let_go P L K leaves held down p meets.0 covers.0 (arm_of P L w) x.0 in
      let m : max (1 + any) (1 + back P K down p x.0) ≤ L - 2 = max-le (omega (arith, a)) (omega (arith, b, h)) in omega (arith, m, a)
  latch_within held down started any (and_choice g p more) meets covers w a h x (under i) =
      latch_within held down started any more meets.1 covers.1 (arms_of P L w) a h x.1 i

  start_within : (held down started : ℕ) (cs : Choices) → ChoiceMeets P cs → ChoiceCovers P K held down cs → ChoiceWithin P L held down started cs
      → 1 ≤ held → 1 ≤ started → (b : Bits (choice_count cs)) (x : ChoiceCells cs) (i : Index (choice_count cs)) → suc (suc (start_trail P K down cs b x i)) ≤ L
  start_within held down started no_choices meets covers w h k b x i = elim i [ ]
  start_within held down started (and_choice g p more) meets covers w h k b x top =
      let a = let_go P L K leaves held down p meets.0 covers.0 (arm_of P L w) x.0 in
      let c = right_of_max (within P p) (max (started + first P p) (choice_within P started more)) L w.inside in
      let d = left_of_max (started + first P p) (choice_within P started more) L c in
      let e = first_some P p in
      either_way b.0 (back P K down p x.0) (first P p - 1) L (omega (arith, a, h)) (omega (arith, d, e, k))
  start_within held down started (and_choice g p more) meets covers w h k b x (under i) =
      start_within held down started more meets.1 covers.1 (arms_of P L w) h k b.1 x.1 i

  mutual
    pub guarded_within : (plus minus : ℕ) (p : Process) → Meets P p → Covers P K 2 (suc plus) p → Within P L 2 (suc plus) p → suc (first P p) ≤ L
        → suc (suc plus) ≤ L → suc (suc (1 + minus)) ≤ L → (env : Seen) (r : Bool) (x : QElementCells (Cells p)) (s : GuardedSpot p)
        → one_rule_fires (guarded_rule p env r x s) ≡ true → suc (suc (guarded_trail P K plus minus p x s)) ≤ L
    guarded_within plus minus p meets covers w a b c env r x child z =
        let d = let_go P L K leaves 2 (suc plus) p meets covers w x.inner in
        let f = first_some P p in
        let e : back P K (suc plus) p x.inner ≡ back P K (1 + plus) p x.inner =
        (let q : suc plus ≡ 1 + plus = omega arith in ap (λ (i : ℕ). back P K i p x.inner) q) in
        either_way x.child (back P K (1 + plus) p x.inner) (first P p - 1) L (omega (arith, d, e)) (omega (arith, a, f))
    guarded_within plus minus p meets covers w a b c env r x latch z =
        let d = let_go P L K leaves 2 (suc plus) p meets covers w x.inner in
        let e : back P K (suc plus) p x.inner ≡ back P K (1 + plus) p x.inner =
        (let q : suc plus ≡ 1 + plus = omega arith in ap (λ (i : ℕ). back P K i p x.inner) q) in
        either_way x.latch (1 + minus) (1 + back P K (1 + plus) p x.inner) L c (omega (arith, d, e))
    guarded_within plus minus p meets covers w a b c env r x next z = either_way x.next minus plus L (omega (arith, c)) b
    guarded_within plus minus p meets covers w a b c env r x (inner s) z =
        let q : suc plus ≡ 1 + plus = omega arith in
        subst (λ (i : ℕ). suc (suc (trail P K 2 i p x.inner s)) ≤ L) q (bounded 2 (suc plus) p meets covers w env x.child x.inner s z)

    pub bounded : (held down : ℕ) (p : Process) → Meets P p → Covers P K held down p → Within P L held down p
        → (env : Seen) (r : Bool) (x : Cells p) (s : Spot p)
        → one_rule_fires (rule p env r x s) ≡ true → suc (suc (trail P K held down p x s)) ≤ L
    bounded held down skipping meets covers w env r x of_skip z = let a = w.lows in let f = w.firsts in either_way x down 0 L (omega (arith, a)) (omega
        (arith, a))
    bounded held down (assigning v at e) meets covers w env r x (of_assign s) z =
        let a = assign_room P L K leaves held down v at e meets covers w in
        let c = covers.1 in
        let f = w.firsts in
        let g : assign_first (reads v e) (depth e) (var_height P v) ≡ assign_first false (depth e) (var_height P v) =
        ap (λ b. assign_first b (depth e) (var_height P v)) meets.plain in
        site_within e env.bit (env.ack (of_var v)) r x (held + (depth e + (2 + var_height P v + K.written v))) down (2 + var_height P v + K.written v)
        (3 + var_height P v) L a (omega (arith, a, c)) (omega (arith, a)) (omega (arith, f, g)) s z
    bounded held down (sending c at e) meets covers w env r x (of_send s) z =
        let a = send_room P L K leaves held down c at e meets covers w in
        let d = covers.1 in
        let l = more_left (kind_at P.channels c) (K.acked c) (K.taken c) (leaves.both c) in
        let f = w.firsts in
        let g = ahead_first (kind_at P.channels c) (depth e) (tree_height (channel_width P.channels c)) in
        site_within e env.bit (env.ack (of_channel c)) r x (held + (depth e + rail_left (kind_at P.channels c) (K.acked c) (K.taken c))) down
        (rail_left (kind_at P.channels c) (K.acked c) (K.taken c)) (rail_ahead (kind_at P.channels c) (tree_height (channel_width P.channels c))) L a
        (omega (arith, a, d, l)) (omega (arith, a)) (omega (arith, f, g)) s z
    bounded held down (receiving c at v to) meets covers w env r x (of_receive heard) z =
        let a = receive_room P L K leaves held down c v at to covers w in
        let b = covers.0 in
        let d = covers.1 in
        either_way x.answer down (held + (3 + var_height P v + K.written v)) L (omega (arith, a, b, d)) a
    bounded held down (receiving c at v to) meets covers w env r x (of_receive stored) z =
        let a = receive_room P L K leaves held down c v at to covers w in
        let d = covers.1 in
        either_way x.kept (1 + K.acked c) 0 L (omega (arith, a, d)) (omega (arith, a))
    bounded held down (receiving c at v to) meets covers w env r x (of_receive (taking i one)) z =
        let a = receive_room P L K leaves held down c v at to covers w in
        let f = w.firsts in
        let g = heard_first (kind_at P.channels c) (var_height P v) in
        either_way (x.taken i one) (2 + var_height P v + K.written v) (5 + var_height P v) L (omega (arith, a)) (omega (arith, f, g))
    bounded held down (in_turn members) meets covers w env r x (in_members s) z = turn_bounded held down members meets covers (turn_of P L w) env r x s z
    bounded held down (side_by_side members) meets covers w env r x (of_branch s) z =
        let a = w.lows in
        each_bounded (tree_height (member_count members) + (held + (2 + tree_height (member_count members) + down)))
        (tree_height (member_count members) + down) members meets.2 covers (each_of P L w) (omega (arith, a)) env r x.branches s z
    bounded held down (side_by_side members) meets covers w env r x (joint k) z =
        let a = w.lows in
        either_way (cell_bit (joint_count (member_count members)) x.tree k)
        ((tree_height (member_count members) - joint_level (member_count members) k) + down)
        ((tree_height (member_count members) - joint_level (member_count members) k) + (held + (2 + tree_height (member_count members) + down))) L
        (omega (arith, a)) (omega (arith, a))
    bounded held down (repeating p) meets covers w env r x of_loop z = absurd (by x.answer z)
      where
        by : (b : Bool) → (if b then false else false) ≡ true → ⊥
        by true z = cc z
        by false z = cc z
    bounded held down (repeating p) meets covers w env r x ask z =
        let b = let_go P L K leaves 1 0 p meets covers (body_of P L w) x.inner in
        either_way x.ask (back P K 0 p x.inner) 0 L (omega (arith, b)) (omega (arith, b))
    bounded held down (repeating p) meets covers w env r x (in_body s) z = bounded 1 0 p meets covers (body_of P L w) env x.ask x.inner s z
    bounded held down (choosing false cs) meets covers w env r x (of_core of_joined) z =
        let a = w.lows in
        let b = arms_low P L (held + 3) cs in
        let c = arms_let_go P L K leaves (held + 3) (1 + down) (3 + guards_depth cs) (1 + down) (held + 2) cs meets.2 covers.1 (select_of P L w)
        (omega (arith, a, b)) (omega arith) x.latched x.branches in
        either_way x.answer down (held + choice_back P K (1 + down) (1 + down) cs x.latched x.branches) L (omega (arith, a)) (omega (arith, c))
    bounded held down (choosing false cs) meets covers w env r x (of_core of_ask) z =
        let c = arms_first P L cs (select_of P L w) (started_within P L cs meets.0 (select_of P L w)) in
        either_way x.ask (guards_depth cs + choices_first P cs) (guards_depth cs) L (omega (arith, c)) (omega (arith, c))
    bounded held down (choosing false cs) meets covers w env r x (of_core of_any) z =
        let a = w.lows in
        let b = arms_low P L (held + 3) cs in
        let c = arms_first P L cs (select_of P L w) (started_within P L cs meets.0 (select_of P L w)) in
        either_way x.any (1 + down) (1 + (guards_depth cs + choices_first P cs)) L (omega (arith, a, b)) (omega (arith, c))
    bounded held down (choosing false cs) meets covers w env r x (of_core (of_latch i)) z =
        let a = w.lows in
        let b = arms_low P L (held + 3) cs in
        latch_within (held + 3) (1 + down) (3 + guards_depth cs) (1 + down) cs meets.2 covers.1 (select_of P L w) (omega (arith, a, b))
        (omega arith) x.branches i
    bounded held down (choosing false cs) meets covers w env r x (of_core (of_start i)) z =
        start_within (held + 3) (1 + down) (3 + guards_depth cs) cs meets.2 covers.1 (select_of P L w) (omega arith) (omega arith) x.started x.branches i
    bounded held down (choosing false cs) meets covers w env r x (of_guard s) z =
        let c = arms_first P L cs (select_of P L w) (started_within P L cs meets.0 (select_of P L w)) in
        guards_within (guards_depth cs) (choices_first P cs) L (omega (arith, c)) cs x.guards s
    bounded held down (choosing false cs) meets covers w env r x (of_choice s) z =
        arms_bounded (held + 3) (1 + down) (3 + guards_depth cs) cs meets.2 covers.1 (select_of P L w) env x.started x.branches s z
    bounded held down (choosing true cs) meets covers w env r x (of_core of_joined) z =
        let a = w.lows in
        let q = repeat_of P L w in
        let e = q.lows in
        let b = arms_low P L 4 cs in
        let c = arms_let_go P L K leaves 4 (3 + guards_depth cs) (3 + guards_depth cs) (3 + guards_depth cs) 3 cs meets.2 covers.1 q
        (omega (arith, e, b)) (omega arith) x.core.latched x.core.branches in
        either_way x.core.answer (2 + guards_depth cs)
        (1 + turn_fall x.leave down (choice_back P K (3 + guards_depth cs) (3 + guards_depth cs) cs x.core.latched x.core.branches)) L (omega (arith, e, b))
        (turn_less x.leave down (choice_back P K (3 + guards_depth cs) (3 + guards_depth cs) cs x.core.latched x.core.branches) L (omega (arith, a))
        (omega (arith, c)))
    bounded held down (choosing true cs) meets covers w env r x (of_core of_ask) z =
        let a = w.lows in
        let c = repeat_room held down cs meets.0 w in
        either_way x.core.ask (guards_depth cs + max (choices_first P cs) (held + 5 + down)) (guards_depth cs) L (omega (arith, c)) (omega (arith, a))
    bounded held down (choosing true cs) meets covers w env r x (of_core of_any) z =
        let a = w.lows in
        let c = repeat_room held down cs meets.0 w in
        let q = repeat_of P L w in
        let e = q.lows in
        let b = arms_low P L 4 cs in
        either_way x.core.any (if x.answer then 1 + down else 3 + guards_depth cs) (1 + (guards_depth cs + max (choices_first P cs) (held + 5 + down))) L
        (either_way x.answer (1 + down) (3 + guards_depth cs) L (omega (arith, a)) (omega (arith, e, b))) (omega (arith, c))
    bounded held down (choosing true cs) meets covers w env r x (of_core (of_latch i)) z =
        let q = repeat_of P L w in
        let e = q.lows in
        let b = arms_low P L 4 cs in
        latch_within 4 (3 + guards_depth cs) (3 + guards_depth cs) (3 + guards_depth cs) cs meets.2 covers.1 q (omega (arith, e, b))
        (omega arith) x.core.branches i
    bounded held down (choosing true cs) meets covers w env r x (of_core (of_start i)) z =
        start_within 4 (3 + guards_depth cs) (3 + guards_depth cs) cs meets.2 covers.1 (repeat_of P L w) (omega arith)
        (omega arith) x.core.started x.core.branches i
    bounded held down (choosing true cs) meets covers w env r x (of_guard s) z =
        let c = repeat_room held down cs meets.0 w in
        guards_within (guards_depth cs) (max (choices_first P cs) (held + 5 + down)) L (omega (arith, c)) cs x.core.guards s
    bounded held down (choosing true cs) meets covers w env r x (of_choice s) z =
        arms_bounded 4 (3 + guards_depth cs) (3 + guards_depth cs) cs meets.2 covers.1 (repeat_of P L w) env x.core.started x.core.branches s z
    bounded held down (choosing true cs) meets covers w env r x (of_round of_answer) z =
        let a = w.lows in either_way x.answer down (held + 4 + down) L (omega (arith, a)) (omega (arith, a))
    bounded held down (choosing true cs) meets covers w env r x (of_round of_turn) z =
        let a = w.lows in
        let q = repeat_of P L w in
        let e = q.lows in
        let b = arms_low P L 4 cs in
        let c = arms_let_go P L K leaves 4 (3 + guards_depth cs) (3 + guards_depth cs) (3 + guards_depth cs) 3 cs meets.2 covers.1 q
        (omega (arith, e, b)) (omega arith) x.core.latched x.core.branches in
        let t = turn_less x.leave down (choice_back P K (3 + guards_depth cs) (3 + guards_depth cs) cs x.core.latched x.core.branches) L (omega (arith, a))
        (omega (arith, c)) in
        either_way x.turn (turn_fall x.leave down (choice_back P K (3 + guards_depth cs) (3 + guards_depth cs) cs x.core.latched x.core.branches))
        (1 + guards_depth cs) L (omega (arith, t)) (omega (arith, a))
    bounded held down (choosing true cs) meets covers w env r x (of_round of_leave) z =
        let a = w.lows in either_way x.leave (2 + down) 0 L (omega (arith, a)) (omega (arith, a))

    pub turn_bounded : (held down : ℕ) (ms : Processes) → TurnMeets P ms → TurnCovers P K held down ms → TurnWithin P L held down ms → (env : Seen) (r : Bool)
        (x : TurnCells ms) (s : TurnSpot ms) → one_rule_fires (turn_rule ms env r x s) ≡ true → suc (suc (turn_trail P K held down ms x s)) ≤ L
    turn_bounded held down no_members meets covers w env r x s z = absurd meets
    turn_bounded held down (and_member p no_members) meets covers w env r x (in_last s) z = bounded held down p meets covers (last_of P L w) env r x s z
    turn_bounded held down (and_member p (and_member q more)) meets covers w env r x (in_member s) z =
        let f = w.firsts in
        let m = member_of P L w in
        let lows = m.lows in
        let a = turn_let_go P L K leaves held down (and_member p (and_member q more)) meets covers w x in
        guarded_within (turn_first P (and_member q more) - 1) (turn_back P K down (and_member q more) x.later) p meets.0 covers.0 m f (omega (arith, lows))
        (omega (arith, a)) env r x.member s z
    turn_bounded held down (and_member p (and_member q more)) meets covers w env r x (in_later s) z =
        turn_bounded (held + 2) down (and_member q more) meets.1 covers.1 (later_of P L w) env x.member.next x.later s z

    pub each_bounded : (plus minus : ℕ) (ms : Processes) → EachMeets P ms → EachCovers P K (suc plus) ms → EachWithin P L (suc plus) ms
        → suc (suc (1 + minus)) ≤ L → (env : Seen) (r : Bool) (x : BranchCells ms) (s : BranchSpot ms) → one_rule_fires (branch_rule ms env r x s) ≡ true
        → suc (suc (branch_trail P K plus minus ms x s)) ≤ L
    each_bounded plus minus no_members meets covers w a env r x s z = elim s [ ]
    each_bounded plus minus (and_member p more) meets covers w a env r x (in_this s) z =
        let b = branch_of P L w in
        let lows = b.lows in
        let f = w.firsts in
        let g = le-max_left (first P p) (each_first P more) in
        guarded_within plus minus p meets.0 covers.0 b (omega (arith, f, g)) (omega (arith, lows)) a env r x.0 s z
    each_bounded plus minus (and_member p more) meets covers w a env r x (in_others s) z =
        each_bounded plus minus more meets.2 covers.1 (branches_of P L w) a env r x.1 s z

    pub arms_bounded : (held down started : ℕ) (cs : Choices) → ChoiceMeets P cs → ChoiceCovers P K held down cs → ChoiceWithin P L held down started cs
        → (env : Seen) (b : Bits (choice_count cs)) (x : ChoiceCells cs) (s : ChoiceSpot cs) → one_rule_fires (choice_rule cs env b x s) ≡ true
        → suc (suc (choice_trail P K held down cs x s)) ≤ L
    arms_bounded held down started no_choices meets covers w env b x s z = elim s [ ]
    arms_bounded held down started (and_choice g p more) meets covers w env b x (this_choice s) z =
        bounded held down p meets.0 covers.0 (arm_of P L w) env b.0 x.0 s z
    arms_bounded held down started (and_choice g p more) meets covers w env b x (other_choice s) z =
        arms_bounded held down started more meets.1 covers.1 (arms_of P L w) env b.1 x.1 s z
