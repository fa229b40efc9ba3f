-- What a statement's request lets move: where it rises, moves that a number below the statement's `first` follows; where it falls, moves
-- that are among those of its `back`.
--
-- P: the program; K: how many moves follow the falls of lines; p, q, more: statements; env: what the statement sees; s: a spot; f: that
-- its rule fires; plain: that its move is no step.
use Rattle.std.proofs.Common.{◌≡◌, ℕ, suc, ◌+◌, ◌-◌, ◌≤◌, Bool, true, false, refl, ap, arith}
use Rattle.std.specs.Prelude.{◌&&◌, if◌then◌else◌}
use Rattle.std.proofs.Math.Nat.{le-max_left, le-max_right}
use Rattle.chp_base.specs.declared.channel.Kind.{Kind}
use Rattle.chp_base.specs.declared.channel.Kind.TheVariants.{In, Out, Chan}
use Rattle.width_check.specs.Processes.{Formula, Process, skipping, assigning, sending, receiving, in_turn, side_by_side, choosing, repeating, Processes, no_members, and_member, member_count, TypedProgram}
use Rattle.width_check.specs.Typing.{kind_at, channel_width}
use Rattle.width_check.specs.Reads.{reads}
use Rattle.function_blocks.specs.Rails.{RailLevels, side_of, pair_in, low_pairs, one_rule_fires}
use Rattle.function_blocks.specs.Parts.{gate_count}
use Rattle.function_blocks.specs.Waves.{gate_rule}
use Rattle.function_blocks.proofs.GateLists.{low_in}
use Rattle.circuit_places.specs.Lines.{of_channel, of_var, Rails, Seen}
use Rattle.circuit_places.specs.Cores.{of_joined, of_ask, of_any, of_latch, of_start, of_answer, of_turn, of_leave}
use Rattle.circuit_places.specs.Circuit.{Cells, low, low_turn, low_branches, SiteSpot, done, gate, PortSpot, heard, stored, taking, child, latch, next, inner, Spot, of_skip, of_assign, of_send, of_receive, in_members, of_branch, joint, of_loop, ask, in_body, of_core, of_guard, of_choice, of_round, BranchSpot, in_this, in_others, TurnSpot, in_last, in_member, in_later, site_rule, low_site, low_port, port_rule, rule, turn_rule, branch_rule}
use Rattle.circuit_places.proofs.HeadFacts.{bit_none}
use Rattle.circuit_places.proofs.LineNames.{self_number, self_line}
use Rattle.circuit_places.proofs.Flow.{Quiet, or_left, not_both}
use Rattle.circuit_places.proofs.Meets.{Meets, TurnMeets, sends, receives}
use Rattle.circuit_places.proofs.Places.{low_answer, low_quiet, low_turn_quiet}
use Rattle.circuit_places.proofs.StillSteps.{rises, value_at, turn_rises, turn_value}
use Rattle.round_time.specs.Longest.{depth, tree_height, var_height, first, turn_first, each_first, assign_first, send_first, receive_first}
use Rattle.circuit_time.proofs.Trails.{Clearing, rail_ahead, gate_depth, site_trail, port_trail, trail, turn_trail, branch_trail}
use Rattle.circuit_time.proofs.Depths.{depth_most, depth_some}

-- ---- each statement has a way to its first step

send_some : (k : Kind) (e h : ℕ) → 1 ≤ send_first k e h
send_some Out e h = omega arith
send_some In e h = omega arith
send_some Chan e h = omega arith

receive_some : (k : Kind) (h : ℕ) → 1 ≤ receive_first k h
receive_some Out h = omega arith
receive_some In h = omega arith
receive_some Chan h = omega arith

assign_some : (b : Bool) (e h : ℕ) → 1 ≤ assign_first b e h
assign_some true e h = omega arith
assign_some false e h = omega arith

mutual
  pub first_some : (P : TypedProgram) (p : Process) → 1 ≤ first P p
  first_some P skipping = omega arith
  first_some P (assigning x at e) = assign_some (reads x e) (depth e) (var_height P x)
  first_some P (sending c at e) = send_some (kind_at P.channels c) (depth e) (tree_height (channel_width P.channels c))
  first_some P (receiving c at x to) = receive_some (kind_at P.channels c) (var_height P x)
  first_some P (in_turn members) = turn_some P members
  first_some P (side_by_side members) = omega arith
  first_some P (choosing false choices) = omega arith
  first_some P (choosing true choices) = omega arith
  first_some P (repeating p) = omega arith

  pub turn_some : (P : TypedProgram) (ms : Processes) → 1 ≤ turn_first P ms
  turn_some P no_members = omega arith
  turn_some P (and_member p no_members) = first_some P p
  turn_some P (and_member p (and_member q more)) = omega arith

-- ---- where a request rises over low nodes

low_gate : (e : Formula) (k : ℕ) (one : Bool) → side_of (pair_in (gate_count e) (low_pairs (gate_count e)) k) one ≡ false
low_gate e k true = ap (λ (p : RailLevels). p.t) (low_in (gate_count e) k)
low_gate e k false = ap (λ (p : RailLevels). p.f) (low_in (gate_count e) k)

-- a gate of a site
gate_asked : (e : Formula) (bits : ℕ → Rails) (left ahead full : ℕ) → depth e + suc ahead ≤ full → (k : ℕ) (one : Bool)
    → one_rule_fires (gate_rule e bits true (low_pairs (gate_count e)) k one) ≡ true
    → suc (suc ((depth e - gate_depth e k) + (if side_of (pair_in (gate_count e) (low_pairs (gate_count e)) k) one then left else ahead))) ≤ full
gate_asked e bits left ahead full room k one f =
    let a = depth_some e bits true (low_pairs (gate_count e)) k one f in
    let b = depth_most e k in
    let c : (if side_of (pair_in (gate_count e) (low_pairs (gate_count e)) k) one then left else ahead) ≡ ahead =
    ap (λ (z : Bool). if z then left else ahead) (low_gate e k one) in
    omega (arith, a, b, c, room)

no_done : (ack : Bool) → ack ≡ false → (true && ack) ≡ true → ⊥
no_done ack low f = cc (low, f)

site_asked : (e : Formula) (bits : ℕ → Rails) (ack : Bool) → ack ≡ false → (up down left ahead full : ℕ) → depth e + suc ahead ≤ full → (s : SiteSpot e)
    → one_rule_fires (site_rule e bits ack true (low_site e) s) ≡ true → suc (suc (site_trail e up down left ahead (low_site e) s)) ≤ full
site_asked e bits ack low up down left ahead full room done f = absurd (no_done ack low f)
site_asked e bits ack low up down left ahead full room (gate k one) f = gate_asked e bits left ahead full room k one f

port_asked : (rail : Rails) (ack va : Bool) → ack ≡ false → va ≡ false → (up down h f v full : ℕ) → 7 + h ≤ full → (s : PortSpot)
    → one_rule_fires (port_rule rail ack va true low_port s) ≡ true → suc (suc (port_trail up down h f v low_port s)) ≤ full
port_asked rail ack va low idle up down h f v full room heard z = absurd (no_done ack low z)
port_asked rail ack va low idle up down h f v full room stored z = absurd (no_done va idle z)
port_asked rail ack va low idle up down h f v full room (taking i one) z = omega (arith, room)

-- what a move must not be that is asked about: the rise of a node whose rise is a step
abbrev pub Plain : (p : Process) → Cells p → Spot p → Type 0
Plain p x s = rises s ≡ true → value_at p x s ≡ true

branch_asked : (P : TypedProgram) (K : Clearing) (plus minus : ℕ) (members : Processes) (env : Seen) (s : BranchSpot members)
    → one_rule_fires (branch_rule members env true (low_branches members) s) ≡ true
    → suc (branch_trail P K plus minus members (low_branches members) s) ≤ each_first P members
branch_asked P K plus minus no_members env s f = elim s [ ]
branch_asked P K plus minus (and_member p more) env (in_this child) f =
    let a = first_some P p in let b = le-max_left (first P p) (each_first P more) in omega (arith, a, b)
branch_asked P K plus minus (and_member p more) env (in_this latch) f = absurd (not_both (low_answer p) f)
branch_asked P K plus minus (and_member p more) env (in_this next) f = absurd (cc f)
branch_asked P K plus minus (and_member p more) env (in_this (inner s)) f = absurd (not_both (low_quiet p env s) f)
branch_asked P K plus minus (and_member p more) env (in_others s) f =
    let a = branch_asked P K plus minus more env s f in let b = le-max_right (first P p) (each_first P more) in omega (arith, a, b)

mutual
  pub asked : (P : TypedProgram) (K : Clearing) (held down : ℕ) (p : Process) (env : Seen) → Meets P p → Quiet p env → (s : Spot p)
      → one_rule_fires (rule p env true (low p) s) ≡ true → Plain p (low p) s → suc (suc (trail P K held down p (low p) s)) ≤ first P p
  asked P K held down skipping env meets quiet of_skip f plain = absurd (cc (plain refl))
  asked P K held down (assigning x at e) env meets quiet (of_assign s) f plain =
      let a : assign_first (reads x e) (depth e) (var_height P x) ≡ assign_first false (depth e) (var_height P x) =
      ap (λ b. assign_first b (depth e) (var_height P x)) meets.plain in
      site_asked e env.bit (env.ack (of_var x)) (quiet.send (of_var x) (self_line (of_var x))) _ down _ (3 + var_height P x)
      (assign_first (reads x e) (depth e) (var_height P x)) (omega (arith, a)) s f
  asked P K held down (sending c at e) env meets quiet (of_send s) f plain =
      site_asked e env.bit (env.ack (of_channel c)) (quiet.send (of_channel c) (self_line (of_channel c))) _ down _
      (rail_ahead (kind_at P.channels c) (tree_height (channel_width P.channels c)))
      (send_first (kind_at P.channels c) (depth e) (tree_height (channel_width P.channels c))) (by (kind_at P.channels c)) s f
    where
      by : (k : Kind) → depth e + suc (rail_ahead k (tree_height (channel_width P.channels c)))
          ≤ send_first k (depth e) (tree_height (channel_width P.channels c))
      by Out = omega arith
      by In = omega arith
      by Chan = omega arith
  asked P K held down (receiving c at x to) env meets quiet (of_receive s) f plain =
      port_asked (env.rail (of_channel c)) (env.ack (of_channel c)) (env.ack (of_var x)) (quiet.receive c (self_number c))
      (quiet.send (of_var x) (self_line (of_var x))) _ down (var_height P x) (K.acked c) (K.written x)
      (receive_first (kind_at P.channels c) (var_height P x)) (by (kind_at P.channels c)) s f
    where
      by : (k : Kind) → 7 + var_height P x ≤ receive_first k (var_height P x)
      by Out = omega arith
      by In = omega arith
      by Chan = omega arith
  asked P K held down (in_turn members) env meets quiet (in_members s) f plain =
      turn_asked P K held down members env meets record { send = quiet.send; receive = quiet.receive } s f plain
  asked P K held down (side_by_side members) env meets quiet (of_branch s) f plain =
      let a = branch_asked P K (tree_height (member_count members) + (held + (2 + tree_height (member_count members) + down)))
      (tree_height (member_count members) + down) members env s f in
      omega (arith, a)
  asked P K held down (side_by_side members) env meets quiet (joint k) f plain = absurd (not_both (low_quiet (side_by_side members) env (joint k)) f)
  asked P K held down (repeating p) env meets quiet of_loop f plain = absurd (cc f)
  asked P K held down (repeating p) env meets quiet ask f plain = absurd (cc (plain refl))
  asked P K held down (repeating p) env meets quiet (in_body s) f plain = absurd (not_both (low_quiet p env s) f)
  asked P K held down (choosing false choices) env meets quiet (of_core of_joined) f plain =
      absurd (not_both (low_quiet (choosing false choices) env (of_core of_joined)) f)
  asked P K held down (choosing false choices) env meets quiet (of_core of_ask) f plain = omega arith
  asked P K held down (choosing false choices) env meets quiet (of_core of_any) f plain =
      absurd (not_both (low_quiet (choosing false choices) env (of_core of_any)) f)
  asked P K held down (choosing false choices) env meets quiet (of_core (of_latch i)) f plain = absurd (not_both (bit_none i) (plain refl))
  asked P K held down (choosing false choices) env meets quiet (of_core (of_start i)) f plain =
      absurd (not_both (low_quiet (choosing false choices) env (of_core (of_start i))) f)
  asked P K held down (choosing false choices) env meets quiet (of_guard s) f plain = absurd (not_both (low_quiet (choosing false choices) env (of_guard s)) f)
  asked P K held down (choosing false choices) env meets quiet (of_choice s) f plain = absurd (not_both (low_quiet (choosing false choices) env
      (of_choice s)) f)
  asked P K held down (choosing true choices) env meets quiet (of_core s) f plain = absurd (not_both (low_quiet (choosing true choices) env (of_core s)) f)
  asked P K held down (choosing true choices) env meets quiet (of_guard s) f plain = absurd (not_both (low_quiet (choosing true choices) env (of_guard s)) f)
  asked P K held down (choosing true choices) env meets quiet (of_choice s) f plain = absurd (not_both (low_quiet (choosing true choices) env (of_choice s)) f)
  asked P K held down (choosing true choices) env meets quiet (of_round of_turn) f plain = omega arith
  asked P K held down (choosing true choices) env meets quiet (of_round of_answer) f plain = absurd (cc f)
  asked P K held down (choosing true choices) env meets quiet (of_round of_leave) f plain =
      absurd (not_both (low_quiet (choosing true choices) env (of_round of_leave)) f)

  -- a sequence from a member on
  pub turn_asked : (P : TypedProgram) (K : Clearing) (held down : ℕ) (members : Processes) (env : Seen) → TurnMeets P members → Quiet (in_turn members) env
      → (s : TurnSpot members) → one_rule_fires (turn_rule members env true (low_turn members) s) ≡ true
      → (turn_rises s ≡ true → turn_value members (low_turn members) s ≡ true)
      → suc (suc (turn_trail P K held down members (low_turn members) s)) ≤ turn_first P members
  turn_asked P K held down no_members env meets quiet s f plain = absurd meets
  turn_asked P K held down (and_member p no_members) env meets quiet (in_last s) f plain =
      asked P K held down p env meets
      record { send = λ k e. quiet.send k (or_left (sends p k) false e); receive = λ c e. quiet.receive c (or_left (receives p c) false e) } s f plain
  turn_asked P K held down (and_member p (and_member q more)) env meets quiet (in_member child) f plain = let a = first_some P p in omega (arith, a)
  turn_asked P K held down (and_member p (and_member q more)) env meets quiet (in_member latch) f plain = absurd (not_both (low_answer p) f)
  turn_asked P K held down (and_member p (and_member q more)) env meets quiet (in_member next) f plain = absurd (cc f)
  turn_asked P K held down (and_member p (and_member q more)) env meets quiet (in_member (inner s)) f plain = absurd (not_both (low_quiet p env s) f)
  turn_asked P K held down (and_member p (and_member q more)) env meets quiet (in_later s) f plain =
      absurd (not_both (low_turn_quiet (and_member q more) env s) f)
