-- What own nodes do where an acknowledge rises: none begins but an answer of one of the line's sites, or what says that a receive has stored, and so many moves
-- at most follow as the number says that is read off all of these sites.
--
-- P: the program; K: how many moves follow the falls of lines; env: what statements see, now: what they see then; R: how many moves; Q: what is said of each
-- site; a, g, b, t: where statements are; s: a spot; z: that its move is enabled then.
use Rattle.std.proofs.Common.{◌≡◌, ℕ, suc, ◌+◌, ◌-◌, ◌<◌, ◌≤◌, ◌==◌, Bool, true, false, List, ap, ◌∙◌, subst, inl, inr, arith}
use Rattle.std.specs.Prelude.{not, ◌&&◌, if◌then◌else◌}
use Rattle.chp_base.specs.declared.span.Span.{Span}
use Rattle.width_check.specs.Processes.{Formula, Process, receiving, Processes, and_member, member_count, Choices, TypedProgram}
use Rattle.width_check.specs.Typing.{kind_at}
use Rattle.function_blocks.specs.Rails.{Pairs}
use Rattle.function_blocks.specs.Parts.{gate_count}
use Rattle.circuit_places.specs.Lines.{Line, of_channel, of_var, same_line, site_statement, Rails, Seen}
use Rattle.circuit_places.specs.Circuit.{done, gate, PortSpot, heard, stored, taking, GuardedSpot, child, latch, next, inner, Spot, of_skip, of_assign, of_send, of_receive, in_members, of_branch, joint, of_loop, ask, in_body, low_turn, of_core, of_guard, of_choice, of_round, ChoiceSpot, this_choice, other_choice, BranchSpot, in_this, in_others, TurnSpot, in_last, in_member, in_later}
use Rattle.circuit_places.proofs.LineNames.{same_line_is}
use Rattle.circuit_places.proofs.Flow.{cases, not_both}
use Rattle.circuit_places.proofs.Places.{Mode, asks, acks, GuardedAt, g_rests, g_in, g_past, g_back, At, rests, at_skip, at_assign, at_send, at_receive, at_turn, at_side, at_body, at_choice, at_turning, at_closing, ChoiceAt, control_at, inside_at, ChosenAt, this_one, another, BranchesAt, no_more, and_at, TurnAt, turn_rests, at_last, at_member, at_later, guarded_cells, cells, choice_cells, chosen_cells, branch_cells, turn_cells, port_of, site_moves, port_moves, guarded_moves, moves, choice_inner, chosen_moves, branch_moves, turn_moves, not_running}
use Rattle.round_time.specs.Longest.{depth, guards_depth, tree_height, var_height, turn_first}
use Rattle.circuit_time.proofs.Trails.{Clearing, rail_left, turn_back, port_trail, guarded_trail, trail, choice_trail, branch_trail, turn_trail}
use Rattle.circuit_pace.proofs.EverySite.{OfSite, EverySite, EveryTurn, EveryBranch, EveryChoice}
use Rattle.circuit_pace.proofs.Counts.{counts}
use Rattle.circuit_ranks.proofs.FarTrails.{Could, same_gate, same_guard, past_same, still_done, still_heard, still_stored, still_taking, stored_up}
use Rattle.circuit_sums.proofs.Passes.{pass_at, put_at, passes, puts}

-- what follows the fall of a site's request
abbrev pub site_back : TypedProgram → Clearing → Line → Formula → ℕ
site_back P K (of_var v) e = depth e + (2 + var_height P v + K.written v)
site_back P K (of_channel c) e = depth e + rail_left (kind_at P.channels c) (K.acked c) (K.taken c)

-- of each leaf
pub record RisenLeaves (P : TypedProgram) (K : Clearing) (env now : Seen) (R : ℕ) (Q : OfSite) : Type 0 where
  pub at_sites : (k : Line) (at : Span) (e : Formula) (m : Mode) (u : Pairs (gate_count e)) (held down : ℕ) → Q held down (site_statement k at e)
      → site_moves now k e m u done ≡ true → Could (site_moves env k e m u done) (if acks m then down else held + site_back P K k e) R
  pub at_ports : (c x : ℕ) (at to : Span) (m : Mode) (k : Bool) (q : Rails) (held down : ℕ) → Q held down (receiving c at x to) → (s : PortSpot)
      → port_moves now c x m k q s ≡ true
      → Could (port_moves env c x m k q s) (port_trail (held + (3 + var_height P x + K.written x)) down (var_height P x) (K.acked c) (K.written x)
      (port_of (acks m) k q) s) R

module _ (P : TypedProgram) (K : Clearing) (env now : Seen) (R : ℕ) (Q : OfSite) (bits : now.bit ≡ env.bit) (leaves : RisenLeaves P K env now R Q) where
  mutual
    pub guarded_risen : (plus minus : ℕ) {p : Process} {m : Mode} (g : GuardedAt p m) → EverySite P Q 2 (suc plus) p → (s : GuardedSpot p)
        → guarded_moves now g s ≡ true → Could (guarded_moves env g s) (guarded_trail P K plus minus p (guarded_cells g) s) R
    guarded_risen plus minus {p = p} (g_in u a h) every (inner s) z = risen 2 (1 + plus) a
        (let w : suc plus ≡ 1 + plus = omega arith in subst (λ (d : ℕ). EverySite P Q 2 d p) w every) s z
    guarded_risen plus minus (g_in u a h) every child z = inl z
    guarded_risen plus minus (g_in u a h) every latch z = inl z
    guarded_risen plus minus (g_in u a h) every next z = inl z
    guarded_risen plus minus g_rests every s z = inl z
    guarded_risen plus minus g_past every s z = inl z
    guarded_risen plus minus {p = p} (g_back u) every s z = inl (past_same env now (g_back {p = p} u) (λ e. cc e) s z)

    risen : (held down : ℕ) {p : Process} {m : Mode} (a : At p m) → EverySite P Q held down p → (s : Spot p) → moves now a s ≡ true
        → Could (moves env a s) (trail P K held down p (cells a) s) R
    risen held down rests every s z = inl z
    risen held down (at_skip m h) every of_skip z = inl z
    risen held down (at_assign {x = x} {at = at} {e = e} m u h) every (of_assign done) z = leaves.at_sites (of_var x) at e m u held down every z
    risen held down (at_assign {e = e} m u h) every (of_assign (gate k one)) z = inl (same_gate env now bits e m u k one z)
    risen held down (at_send {c = c} {at = at} {e = e} m u h) every (of_send done) z = leaves.at_sites (of_channel c) at e m u held down every z
    risen held down (at_send {e = e} m u h) every (of_send (gate k one)) z = inl (same_gate env now bits e m u k one z)
    risen held down (at_receive {c = c} {x = x} {at = at} {to = to} m k q h) every (of_receive s) z = leaves.at_ports c x at to m k q held down every s z
    risen held down (at_turn t) every (in_members s) z = turn_risen held down t every s z
    risen held down (at_side {members = members} m t b h) every (of_branch s) z =
        branches_risen (tree_height (member_count members) + (held + (2 + tree_height (member_count members) + down)))
        (tree_height (member_count members) + down) b every s z
    risen held down (at_side m t b h) every (joint k) z = inl z
    risen held down (at_body a) every (in_body s) z = risen 1 0 a every s z
    risen held down (at_body a) every of_loop z = inl z
    risen held down (at_body a) every ask z = inl z
    risen held down (at_choice x) every (of_core s) z = inl z
    risen held down (at_choice x) every (of_guard s) z = inl (same_guard env now bits x s z)
    risen held down (at_choice x) every (of_choice s) z = choice_risen (held + 3) (1 + down) x every s z
    risen held down (at_turning x) every (of_core s) z = inl z
    risen held down (at_turning x) every (of_guard s) z = inl (same_guard env now bits x s z)
    risen held down (at_turning {choices = choices} x) every (of_choice s) z = choice_risen 4 (3 + guards_depth choices) x every s z
    risen held down (at_turning x) every (of_round s) z = inl z
    risen held down (at_closing c) every (of_core s) z = inl z
    risen held down (at_closing c) every (of_guard s) z = inl z
    risen held down (at_closing c) every (of_choice s) z = inl z
    risen held down (at_closing c) every (of_round s) z = inl z

    choice_risen : (held down : ℕ) {again : Bool} {choices : Choices} {m : Mode} (x : ChoiceAt again choices m) → EveryChoice P Q held down choices
        → (s : ChoiceSpot choices) → choice_inner now x s ≡ true
        → Could (choice_inner env x s) (choice_trail P K held down choices (choice_cells x).branches s) R
    choice_risen held down (control_at c) every s z = inl z
    choice_risen held down (inside_at a w) every s z = chosen_risen held down a every s z

    chosen_risen : (held down : ℕ) {choices : Choices} {k : Mode} (a : ChosenAt choices k) → EveryChoice P Q held down choices → (s : ChoiceSpot choices)
        → chosen_moves now a s ≡ true → Could (chosen_moves env a s) (choice_trail P K held down choices (chosen_cells a) s) R
    chosen_risen held down (this_one a) every (this_choice s) z = risen held down a every.0 s z
    chosen_risen held down (this_one a) every (other_choice s) z = inl z
    chosen_risen held down (another a) every (this_choice s) z = inl z
    chosen_risen held down (another a) every (other_choice s) z = chosen_risen held down a every.1 s z

    branches_risen : (plus minus : ℕ) {members : Processes} {ks : List Mode} (b : BranchesAt members ks) → EveryBranch P Q (suc plus) members
        → (s : BranchSpot members) → branch_moves now b s ≡ true
        → Could (branch_moves env b s) (branch_trail P K plus minus members (branch_cells b) s) R
    branches_risen plus minus no_more every s z = inl z
    branches_risen plus minus (and_at g b) every (in_this s) z = guarded_risen plus minus g every.0 s z
    branches_risen plus minus (and_at g b) every (in_others s) z = branches_risen plus minus b every.1 s z

    turn_risen : (held down : ℕ) {members : Processes} {m : Mode} (t : TurnAt members m) → EveryTurn P Q held down members → (s : TurnSpot members)
        → turn_moves now t s ≡ true → Could (turn_moves env t s) (turn_trail P K held down members (turn_cells t) s) R
    turn_risen held down turn_rests every s z = inl z
    turn_risen held down (at_last a) every (in_last s) z = risen held down a every s z
    turn_risen held down (at_member {q = q} {more = more} g) every (in_member s) z =
        guarded_risen (turn_first P (and_member q more) - 1) (turn_back P K down (and_member q more) (low_turn (and_member q more))) g every.0 s z
    turn_risen held down (at_member g) every (in_later s) z = inl z
    turn_risen held down (at_later {k = k} {n = n} {m = m} g t h) every (in_member s) z = inl (past_same env now g (not_running m k n h) s z)
    turn_risen held down (at_later g t h) every (in_later s) z = turn_risen (held + 2) down t every.1 s z

-- ---- the leaves

module _ (P : TypedProgram) (env now : Seen) (l : Line) (high : now.ack l ≡ true) (far : (k : Line) → same_line k l ≡ false → now.ack k ≡ env.ack k)
    (rails : now.rail ≡ env.rail) where
  -- over an acknowledge that is high an answer may rise
  answer_up : (m : Mode) (b : Bool) (up down R : ℕ) → b ≡ true → (if acks m then not b else asks m && b) ≡ true → up < R → (if acks m then down else up) < R
  answer_up m b up down R e z less = by (acks m) z
    where
      by : (a : Bool) → (if a then not b else asks m && b) ≡ true → (if a then down else up) < R
      by true z = absurd (not_both (ap not e) z)
      by false z = less

  is_high : (k : Line) → same_line k l ≡ true → now.ack k ≡ true
  is_high k same = ap now.ack (same_line_is k l same) ∙ high

  module _ (R : ℕ) (some : 0 < R) (Q : OfSite)
      (site_room : (k : Line) (at : Span) (e : Formula) (held down : ℕ) → same_line k l ≡ true → Q held down (site_statement k at e)
      → held + site_back P (counts P) k e < R)
      (port_room : (c x : ℕ) (at to : Span) (held down : ℕ) → same_line (of_channel c) l ≡ true → Q held down (receiving c at x to)
      → held + (3 + var_height P x + (counts P).written x) < R) where
    pub risen_leaves : RisenLeaves P (counts P) env now R Q
    risen_leaves = record { at_sites = the_site; at_ports = the_port }
      where
        the_site : (k : Line) (at : Span) (e : Formula) (m : Mode) (u : Pairs (gate_count e)) (held down : ℕ) → Q held down (site_statement k at e)
            → site_moves now k e m u done ≡ true
            → Could (site_moves env k e m u done) (if acks m then down else held + site_back P (counts P) k e) R
        the_site k at e m u held down q z = cases (same_line k l)
            (λ (h : same_line k l ≡ true).
            inr (answer_up m (now.ack k) (held + site_back P (counts P) k e) down R (is_high k h) z (site_room k at e held down h q)))
            (λ (h : same_line k l ≡ false). inl (still_done env now k e m u (far k h) z))

        the_port : (c x : ℕ) (at to : Span) (m : Mode) (k : Bool) (q : Rails) (held down : ℕ) → Q held down (receiving c at x to) → (s : PortSpot)
            → port_moves now c x m k q s ≡ true
            → Could (port_moves env c x m k q s) (port_trail (held + (3 + var_height P x + (counts P).written x)) down (var_height P x)
            ((counts P).acked c) ((counts P).written x) (port_of (acks m) k q) s) R
        the_port c x at to m k q held down w heard z = cases (same_line (of_channel c) l)
            (λ (h : same_line (of_channel c) l ≡ true).
            inr (answer_up m (now.ack (of_channel c)) (held + (3 + var_height P x + (counts P).written x)) down R (is_high (of_channel c) h) z
            (port_room c x at to held down h w)))
            (λ (h : same_line (of_channel c) l ≡ false). inl (still_heard env now c x m k q (far (of_channel c) h) z))
        the_port c x at to m k q held down w stored z = cases (same_line (of_var x) l)
            (λ (h : same_line (of_var x) l ≡ true). inr (stored_up m k (now.ack (of_var x)) ((counts P).acked c) R (is_high (of_var x) h) z some))
            (λ (h : same_line (of_var x) l ≡ false). inl (still_stored env now c x m k q (far (of_var x) h) z))
        the_port c x at to m k q held down w (taking j b) z =
            inl (still_taking env now c x m k q j b (ap (λ (r : Line → Rails). r (of_channel c) j b) rails) z)

-- what is counted at a site of the line
counted : (n k b a R : ℕ) → (n == k) ≡ true → (if n == k then 1 + (b + a) else 0) ≤ R → b + a < R
counted n k b a R h e =
    let z : (if n == k then 1 + (b + a) else 0) ≡ 1 + (b + a) = ap (λ (c : Bool). if c then 1 + (b + a) else 0) h in omega (arith, z, e)

module _ (P : TypedProgram) (env now : Seen) where
  -- of a channel
  pub channel_leaves : (c : ℕ) → now.ack (of_channel c) ≡ true → ((k : Line) → same_line k (of_channel c) ≡ false → now.ack k ≡ env.ack k)
      → now.rail ≡ env.rail → 0 < passes P c → RisenLeaves P (counts P) env now (passes P c) (λ held down q. pass_at P c q held ≤ passes P c)
  channel_leaves c high far rails some = risen_leaves P env now (of_channel c) high far rails (passes P c) some
      (λ held down q. pass_at P c q held ≤ passes P c) sites
      (λ d x at to held down h q. counted d c held (3 + var_height P x + (counts P).written x) (passes P c) h q)
    where
      sites : (k : Line) (at : Span) (e : Formula) (held down : ℕ) → same_line k (of_channel c) ≡ true → pass_at P c (site_statement k at e) held ≤ passes P c
          → held + site_back P (counts P) k e < passes P c
      sites (of_channel d) at e held down h q =
          counted d c held (depth e + rail_left (kind_at P.channels d) ((counts P).acked d) ((counts P).taken d)) (passes P c) h q
      sites (of_var v) at e held down h q = absurd (cc h)

  -- of a variable
  pub var_leaves : (v : ℕ) → now.ack (of_var v) ≡ true → ((k : Line) → same_line k (of_var v) ≡ false → now.ack k ≡ env.ack k)
      → now.rail ≡ env.rail → 0 < puts P v → RisenLeaves P (counts P) env now (puts P v) (λ held down q. put_at P v q held ≤ puts P v)
  var_leaves v high far rails some = risen_leaves P env now (of_var v) high far rails (puts P v) some
      (λ held down q. put_at P v q held ≤ puts P v) sites (λ d x at to held down h q. absurd (cc h))
    where
      sites : (k : Line) (at : Span) (e : Formula) (held down : ℕ) → same_line k (of_var v) ≡ true → put_at P v (site_statement k at e) held ≤ puts P v
          → held + site_back P (counts P) k e < puts P v
      sites (of_var y) at e held down h q = counted y v held (depth e + (2 + var_height P y + (counts P).written y)) (puts P v) h q
      sites (of_channel d) at e held down h q = absurd (cc h)
