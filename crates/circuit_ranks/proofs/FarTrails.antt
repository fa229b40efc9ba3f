-- What a move outside of all statements lets own nodes do: each could move before, or has a trail that is shorter than a number.
--
-- P: the program; K: how many moves follow the falls of lines; env, now: what statements see before and after it; R: that number; f: what is
-- asked of a site; T: what follows where the statement is asked that; a, g, b, t: where a statement, a guarded one, branches and a sequence are; s: a
-- spot; z: that it may move.
use Rattle.std.proofs.Common.{◌≡◌, ℕ, suc, ◌+◌, ◌-◌, ◌<◌, ◌≤◌, ◌==◌, Bool, true, false, List, refl, sym, ap, ◌∙◌, subst, inl, inr, arith}
use Rattle.std.specs.Prelude.{◌⊎◌, not, ◌&&◌, if◌then◌else◌}
use Rattle.chp_base.specs.declared.span.Span.{Span}
use Rattle.width_check.specs.Processes.{Formula, Process, receiving, in_turn, side_by_side, choosing, Processes, and_member, member_count, Choices, TypedProgram}
use Rattle.width_check.specs.Typing.{kind_at, channel_width}
use Rattle.function_blocks.specs.Rails.{Pairs, one_rule_fires}
use Rattle.function_blocks.specs.Parts.{gate_count}
use Rattle.circuit_places.specs.Heads.{hot}
use Rattle.circuit_places.specs.Lines.{Line, of_channel, of_var, same_line, site_statement, Rails, Seen}
use Rattle.circuit_places.specs.Circuit.{done, gate, PortSpot, heard, stored, taking, GuardedSpot, child, latch, next, inner, Spot, of_skip, of_assign, of_send, of_receive, in_members, of_branch, joint, of_loop, ask, in_body, low_guards, low_turn, gate_rule, guards_rule, of_core, of_guard, of_choice, of_round, GuardSpot, ChoiceSpot, this_choice, other_choice, BranchSpot, in_this, in_others, TurnSpot, in_last, in_member, in_later}
use Rattle.circuit_places.specs.Whole.{is_heard}
use Rattle.circuit_places.proofs.RailLemmas.{fst_true, snd_true}
use Rattle.circuit_places.proofs.LineNames.{self_line, same_number, same_line_is}
use Rattle.circuit_places.proofs.Flow.{cases, not_both, neither_left, neither_right, or_left, or_right}
use Rattle.circuit_places.proofs.Talks.{beside}
use Rattle.circuit_places.proofs.Meets.{PortMeets, Meets, TurnMeets, EachMeets, ChoiceMeets}
use Rattle.circuit_places.proofs.CoreControl.{control_ask, control_guards}
use Rattle.circuit_places.proofs.Change.{Handed}
use Rattle.circuit_places.proofs.Places.{Mode, running, asks, acks, GuardedAt, g_rests, g_in, g_past, g_back, At, rests, at_skip, at_assign, at_send, at_receive, at_turn, at_side, at_body, at_choice, at_turning, at_closing, ChoiceAt, control_at, inside_at, ChosenAt, this_one, another, chosen_index, BranchesAt, no_more, and_at, TurnAt, turn_rests, at_last, at_member, at_later, guarded_cells, cells, choice_cells, chosen_cells, branch_cells, turn_cells, Shown, site_shown, port_shown, guarded_shown, shown, choice_shown, chosen_shown, branches_shown, turn_shown, port_of, site_moves, port_moves, guarded_moves, moves, choice_guard, choice_inner, chosen_moves, branch_moves, turn_moves, next_is, link_next, not_running}
use Rattle.round_time.specs.Longest.{guards_depth, tree_height, var_height, turn_first}
use Rattle.circuit_time.proofs.Trails.{Clearing, turn_back, port_trail, guarded_trail, trail, choice_trail, branch_trail, turn_trail}
use Rattle.circuit_time.proofs.OwnTrails.{Covers, TurnCovers, EachCovers, ChoiceCovers}
use Rattle.circuit_ranks.proofs.Ranks.{Asked, listens_on, is_asked, turn_asked, branch_asked, choice_asked}

-- how many moves follow the fall of a line's acknowledge
abbrev pub cleared : Clearing → Line → ℕ
cleared K (of_channel c) = K.acked c
cleared K (of_var x) = K.written x

-- what could be done before, or has a shorter trail
abbrev pub Could : (could : Bool) → (now R : ℕ) → Type 0
Could could now R = (could ≡ true) ⊎ (now < R)

-- of each leaf
pub record FarLeaves (P : TypedProgram) (K : Clearing) (env now : Seen) (R : ℕ) (f : Asked) (T : Type 0) (Cond : Process → Shown → Type 0) : Type 0 where
  pub at_sites : (k : Line) (at : Span) (e : Formula) (m : Mode) (u : Pairs (gate_count e)) (up down : ℕ) → suc down ≤ cleared K k
      → Cond (site_statement k at e) (site_shown k e u) → site_moves now k e m u done ≡ true
      → Could (site_moves env k e m u done) (if acks m then down else up) R
  pub at_ports : (c x : ℕ) (at to : Span) (m : Mode) (k : Bool) (q : Rails) (up down : ℕ) → PortMeets P c x → Covers P K up down (receiving c at x to)
      → Cond (receiving c at x to) (port_shown c x k q) → (f (receiving c at x to) (asks m) ≡ true → T) → (s : PortSpot)
      → port_moves now c x m k q s ≡ true
      → Could (port_moves env c x m k q s) (port_trail (up + (3 + var_height P x + K.written x)) down (var_height P x) (K.acked c) (K.written x)
      (port_of (acks m) k q) s) R

-- ---- what moves alike, whether statements see the one or the other

module _ (env now : Seen) (bits : now.bit ≡ env.bit) where
  pub same_gate : (e : Formula) (m : Mode) (u : Pairs (gate_count e)) (k : ℕ) (one : Bool) → one_rule_fires (gate_rule e now.bit (asks m) u k one) ≡ true
      → one_rule_fires (gate_rule e env.bit (asks m) u k one) ≡ true
  same_gate e m u k one z = ap (λ (b : ℕ → Rails). one_rule_fires (gate_rule e b (asks m) u k one)) (sym bits) ∙ z

  pub same_guard : {again : Bool} {choices : Choices} {m : Mode} (x : ChoiceAt again choices m) (s : GuardSpot choices) → choice_guard now x s ≡ true
      → choice_guard env x s ≡ true
  same_guard (control_at {choices = choices} c) s z =
      ap (λ (b : ℕ → Rails). one_rule_fires (guards_rule choices b (control_ask c) (control_guards (low_guards choices) c) s)) (sym bits) ∙ z
  same_guard (inside_at a w) s z = z

module _ (env now : Seen) where
  -- the Q-element of a member that is done
  pub past_same : {p : Process} {m : Mode} (g : GuardedAt p m) → (m ≡ running → ⊥) → (s : GuardedSpot p) → guarded_moves now g s ≡ true
      → guarded_moves env g s ≡ true
  past_same g_rests out s z = z
  past_same (g_in u a h) out s z = absurd (out refl)
  past_same g_past out s z = z
  past_same (g_back u) out child z = z
  past_same (g_back u) out latch z = z
  past_same (g_back u) out next z = z
  past_same (g_back u) out (inner s) z = z

  -- what reads an acknowledge that stays
  pub still_done : (k : Line) (e : Formula) (m : Mode) (u : Pairs (gate_count e)) → now.ack k ≡ env.ack k → site_moves now k e m u done ≡ true
      → site_moves env k e m u done ≡ true
  still_done k e m u same z = ap (λ b. if acks m then not b else asks m && b) (sym same) ∙ z

  pub still_heard : (c x : ℕ) (m : Mode) (k : Bool) (q : Rails) → now.ack (of_channel c) ≡ env.ack (of_channel c) → port_moves now c x m k q heard ≡ true
      → port_moves env c x m k q heard ≡ true
  still_heard c x m k q same z = ap (λ b. if acks m then not b else asks m && b) (sym same) ∙ z

  pub still_stored : (c x : ℕ) (m : Mode) (k : Bool) (q : Rails) → now.ack (of_var x) ≡ env.ack (of_var x) → port_moves now c x m k q stored ≡ true
      → port_moves env c x m k q stored ≡ true
  still_stored c x m k q same z = ap (λ b. if k then not b else asks m && b) (sym same) ∙ z

  pub still_taking : (c x : ℕ) (m : Mode) (k : Bool) (q : Rails) (i : ℕ) (one : Bool) → now.rail (of_channel c) i one ≡ env.rail (of_channel c) i one
      → port_moves now c x m k q (taking i one) ≡ true → port_moves env c x m k q (taking i one) ≡ true
  still_taking c x m k q i one same z = ap (λ b. if q i one then not (asks m) && not b else asks m && b) (sym same) ∙ z

-- of what says that a receive has stored, over an acknowledge that is high, only the rise may move, which nothing follows
pub stored_up : (m : Mode) (k b : Bool) (f R : ℕ) → b ≡ true → (if k then not b else asks m && b) ≡ true → 0 < R → (if k then 1 + f else 0) < R
stored_up m true b f R high z some = absurd (not_both (ap not high) z)
stored_up m false b f R high z some = some

-- ---- own nodes of a statement

module _ (P : TypedProgram) (K : Clearing) (env now : Seen) (R : ℕ) (f : Asked) (T : Type 0) (Cond : Process → Shown → Type 0) (handed : Handed Cond)
    (bits : now.bit ≡ env.bit) (leaves : FarLeaves P K env now R f T Cond) where
  mutual
    pub guarded_far : (plus minus : ℕ) {p : Process} {m : Mode} (g : GuardedAt p m) → Meets P p → Covers P K 2 (suc plus) p → Cond p (guarded_shown g)
        → (is_asked f p (guarded_cells g).child (guarded_cells g).inner ≡ true → T) → (s : GuardedSpot p) → guarded_moves now g s ≡ true
        → Could (guarded_moves env g s) (guarded_trail P K plus minus p (guarded_cells g) s) R
    guarded_far plus minus {p = p} (g_in u a h) meets covers i up (inner s) z = far 2 (1 + plus) a meets
        (let w : suc plus ≡ 1 + plus = omega arith in subst (λ (d : ℕ). Covers P K 2 d p) w covers) i up s z
    guarded_far plus minus (g_in u a h) meets covers i up child z = inl z
    guarded_far plus minus (g_in u a h) meets covers i up latch z = inl z
    guarded_far plus minus (g_in u a h) meets covers i up next z = inl z
    guarded_far plus minus g_rests meets covers i up s z = inl z
    guarded_far plus minus g_past meets covers i up s z = inl z
    guarded_far plus minus {p = p} (g_back u) meets covers i up s z = inl (past_same env now (g_back {p = p} u) (λ e. cc e) s z)

    far : (held down : ℕ) {p : Process} {m : Mode} (a : At p m) → Meets P p → Covers P K held down p → Cond p (shown a)
        → (is_asked f p (asks m) (cells a) ≡ true → T) → (s : Spot p) → moves now a s ≡ true → Could (moves env a s) (trail P K held down p (cells a) s) R
    far held down rests meets covers i up s z = inl z
    far held down (at_skip m h) meets covers i up of_skip z = inl z
    far held down (at_assign {x = x} {at = at} {e = e} m u h) meets covers i up (of_assign done) z = leaves.at_sites (of_var x) at e m u _ down covers.1 i z
    far held down (at_assign {e = e} m u h) meets covers i up (of_assign (gate k one)) z = inl (same_gate env now bits e m u k one z)
    far held down (at_send {c = c} {at = at} {e = e} m u h) meets covers i up (of_send done) z = leaves.at_sites (of_channel c) at e m u _ down covers.1 i z
    far held down (at_send {e = e} m u h) meets covers i up (of_send (gate k one)) z = inl (same_gate env now bits e m u k one z)
    far held down (at_receive {c = c} {x = x} {at = at} {to = to} m k q h) meets covers i up (of_receive s) z =
        leaves.at_ports c x at to m k q held down meets covers i up s z
    far held down (at_turn t) meets covers i up (in_members s) z = turn_far held down t meets covers i up s z
    far held down (at_side {members = members} m t b h) meets covers i up (of_branch s) z =
        branches_far (tree_height (member_count members) + (held + (2 + tree_height (member_count members) + down)))
        (tree_height (member_count members) + down) b meets.2 covers i up s z
    far held down (at_side m t b h) meets covers i up (joint k) z = inl z
    far held down (at_body a) meets covers i up (in_body s) z = far 1 0 a meets covers (handed.to_body i) up s z
    far held down (at_body a) meets covers i up of_loop z = inl z
    far held down (at_body a) meets covers i up ask z = inl z
    far held down (at_choice x) meets covers i up (of_core s) z = inl z
    far held down (at_choice x) meets covers i up (of_guard s) z = inl (same_guard env now bits x s z)
    far held down (at_choice x) meets covers i up (of_choice s) z = choice_far (held + 3) (1 + down) false x meets.2 covers.1 i up s z
    far held down (at_turning x) meets covers i up (of_core s) z = inl z
    far held down (at_turning x) meets covers i up (of_guard s) z = inl (same_guard env now bits x s z)
    far held down (at_turning {choices = choices} x) meets covers i up (of_choice s) z =
        choice_far 4 (3 + guards_depth choices) true x meets.2 covers.1 i up s z
    far held down (at_turning x) meets covers i up (of_round s) z = inl z
    far held down (at_closing c) meets covers i up (of_core s) z = inl z
    far held down (at_closing c) meets covers i up (of_guard s) z = inl z
    far held down (at_closing c) meets covers i up (of_choice s) z = inl z
    far held down (at_closing c) meets covers i up (of_round s) z = inl z

    choice_far : (held down : ℕ) (again : Bool) {choices : Choices} {m : Mode} (x : ChoiceAt again choices m) → ChoiceMeets P choices
        → ChoiceCovers P K held down choices → Cond (choosing again choices) (choice_shown x)
        → (choice_asked f choices (choice_cells x).started (choice_cells x).branches ≡ true → T) → (s : ChoiceSpot choices) → choice_inner now x s ≡ true
        → Could (choice_inner env x s) (choice_trail P K held down choices (choice_cells x).branches s) R
    choice_far held down again (control_at c) meets covers i up s z = inl z
    choice_far held down again (inside_at a w) meets covers i up s z = chosen_far held down again a meets covers i up s z

    chosen_far : (held down : ℕ) (again : Bool) {choices : Choices} {k : Mode} (a : ChosenAt choices k) → ChoiceMeets P choices
        → ChoiceCovers P K held down choices → Cond (choosing again choices) (chosen_shown a)
        → (choice_asked f choices (hot (chosen_index a) (asks k)) (chosen_cells a) ≡ true → T) → (s : ChoiceSpot choices) → chosen_moves now a s ≡ true
        → Could (chosen_moves env a s) (choice_trail P K held down choices (chosen_cells a) s) R
    chosen_far held down again (this_one a) meets covers i up (this_choice s) z =
        far held down a meets.0 covers.0 (handed.to_choice i) (λ y. up (or_left _ _ y)) s z
    chosen_far held down again (this_one a) meets covers i up (other_choice s) z = inl z
    chosen_far held down again (another a) meets covers i up (this_choice s) z = inl z
    chosen_far held down again (another a) meets covers i up (other_choice s) z =
        chosen_far held down again a meets.1 covers.1 (handed.to_choices i) (λ y. up (or_right _ _ y)) s z

    branches_far : (plus minus : ℕ) {members : Processes} {ks : List Mode} (b : BranchesAt members ks) → EachMeets P members
        → EachCovers P K (suc plus) members → Cond (side_by_side members) (branches_shown b) → (branch_asked f members (branch_cells b) ≡ true → T)
        → (s : BranchSpot members) → branch_moves now b s ≡ true
        → Could (branch_moves env b s) (branch_trail P K plus minus members (branch_cells b) s) R
    branches_far plus minus no_more meets covers i up s z = inl z
    branches_far plus minus (and_at g b) meets covers i up (in_this s) z =
        guarded_far plus minus g meets.0 covers.0 (handed.to_this (beside meets.1 g b) i) (λ y. up (or_left _ _ y)) s z
    branches_far plus minus (and_at g b) meets covers i up (in_others s) z =
        branches_far plus minus b meets.2 covers.1 (handed.to_others (beside meets.1 g b) i) (λ y. up (or_right _ _ y)) s z

    turn_far : (held down : ℕ) {members : Processes} {m : Mode} (t : TurnAt members m) → TurnMeets P members → TurnCovers P K held down members
        → Cond (in_turn members) (turn_shown t) → (turn_asked f members (asks m) (turn_cells t) ≡ true → T) → (s : TurnSpot members)
        → turn_moves now t s ≡ true → Could (turn_moves env t s) (turn_trail P K held down members (turn_cells t) s) R
    turn_far held down turn_rests meets covers i up s z = inl z
    turn_far held down (at_last a) meets covers i up (in_last s) z = far held down a meets covers (handed.to_first i) up s z
    turn_far held down (at_member {q = q} {more = more} g) meets covers i up (in_member s) z =
        guarded_far (turn_first P (and_member q more) - 1) (turn_back P K down (and_member q more) (low_turn (and_member q more))) g meets.0 covers.0
        (handed.to_first i) (λ y. up (or_left _ _ y)) s z
    turn_far held down (at_member g) meets covers i up (in_later s) z = inl z
    turn_far held down (at_later {k = k} {n = n} {m = m} g t h) meets covers i up (in_member s) z = inl (past_same env now g (not_running m k n h) s z)
    turn_far held down (at_later {q = q} {more = more} {k = k} {n = n} {m = m} g t h) meets covers i up (in_later s) z =
        turn_far (held + 2) down t meets.1 covers.1 (handed.to_later i)
        (λ y. up (or_right _ _ (subst (λ (r : Bool). turn_asked f (and_member q more) r (turn_cells t) ≡ true) (sym (next_is g ∙ link_next m k n h)) y))) s z

-- ---- the leaves

-- no assignment to the variable is under way
pub record Unsaid (v : ℕ) (p : Process) (x : Shown) : Type 0 where
  pub says : x.says (of_var v) ≡ false

pub unsaid_down : (v : ℕ) → Handed (Unsaid v)
unsaid_down v = record {
  to_first = λ {p} {more} {x} r. record { says = r.says };
  to_later = λ {p} {more} {x} r. record { says = r.says };
  to_this = λ {p} {more} {x} {y} b r. record { says = neither_left (x.says (of_var v)) (y.says (of_var v)) r.says };
  to_others = λ {p} {more} {x} {y} b r. record { says = neither_right (x.says (of_var v)) (y.says (of_var v)) r.says };
  to_body = λ {p} {x} r. record { says = r.says };
  to_choice = λ {again} {g} {p} {more} {x} r. record { says = r.says };
  to_choices = λ {again} {g} {p} {more} {x} r. record { says = r.says };
}

module _ (P : TypedProgram) (K : Clearing) (env now : Seen) (R : ℕ) where
  -- of an answer over an acknowledge that is low only its fall may move, and over one that is high its rise
  low_answer : (m : Mode) (b : Bool) (up down : ℕ) → b ≡ false → (if acks m then not b else asks m && b) ≡ true → down < R
      → (if acks m then down else up) < R
  low_answer m b up down low z less = by (acks m) z
    where
      last : (r : Bool) → (r && b) ≡ true → ⊥
      last r z = not_both low (snd_true r b z)

      by : (a : Bool) → (if a then not b else asks m && b) ≡ true → (if a then down else up) < R
      by true z = less
      by false z = absurd (last (asks m) z)

  -- nothing changes that is seen
  pub still_far : ((k : Line) → now.ack k ≡ env.ack k) → ((c i : ℕ) (one : Bool) → now.rail (of_channel c) i one ≡ env.rail (of_channel c) i one)
      → (f : Asked) (T : Type 0) (Cond : Process → Shown → Type 0) → FarLeaves P K env now R f T Cond
  still_far acks_stay rails f T Cond = record {
    at_sites = λ k at e m u up down covers i z. inl (still_done env now k e m u (acks_stay k) z);
    at_ports = the_port;
  }
    where
      the_port : (c x : ℕ) (at to : Span) (m : Mode) (k : Bool) (q : Rails) (up down : ℕ) → PortMeets P c x → Covers P K up down (receiving c at x to)
          → Cond (receiving c at x to) (port_shown c x k q) → (f (receiving c at x to) (asks m) ≡ true → T) → (s : PortSpot)
          → port_moves now c x m k q s ≡ true
          → Could (port_moves env c x m k q s) (port_trail (up + (3 + var_height P x + K.written x)) down (var_height P x) (K.acked c) (K.written x)
          (port_of (acks m) k q) s) R
      the_port c x at to m k q up down meets covers i on heard z = inl (still_heard env now c x m k q (acks_stay (of_channel c)) z)
      the_port c x at to m k q up down meets covers i on stored z = inl (still_stored env now c x m k q (acks_stay (of_var x)) z)
      the_port c x at to m k q up down meets covers i on (taking j b) z = inl (still_taking env now c x m k q j b (rails c j b) z)

  -- The acknowledge of a line falls, which at most so many moves follow as the number says.
  pub falls_far : (l : Line) → now.ack l ≡ false → ((k : Line) → same_line k l ≡ false → now.ack k ≡ env.ack k) → now.rail ≡ env.rail
      → cleared K l ≤ R → (f : Asked) (T : Type 0) (Cond : Process → Shown → Type 0) → FarLeaves P K env now R f T Cond
  falls_far l low far rails room f T Cond = record { at_sites = the_site; at_ports = the_port }
    where
      within : (k : Line) (down : ℕ) → same_line k l ≡ true → suc down ≤ cleared K k → down < R
      within k down same less = let a : cleared K k ≡ cleared K l = ap (cleared K) (same_line_is k l same) in omega (arith, a, less, room)

      is_low : (k : Line) → same_line k l ≡ true → now.ack k ≡ false
      is_low k same = ap now.ack (same_line_is k l same) ∙ low

      the_site : (k : Line) (at : Span) (e : Formula) (m : Mode) (u : Pairs (gate_count e)) (up down : ℕ) → suc down ≤ cleared K k
          → Cond (site_statement k at e) (site_shown k e u) → site_moves now k e m u done ≡ true
          → Could (site_moves env k e m u done) (if acks m then down else up) R
      the_site k at e m u up down covers i z = cases (same_line k l)
          (λ (h : same_line k l ≡ true). inr (low_answer m (now.ack k) up down (is_low k h) z (within k down h covers)))
          (λ (h : same_line k l ≡ false). inl (still_done env now k e m u (far k h) z))

      kept : (m : Mode) (k b : Bool) (f : ℕ) → b ≡ false → (if k then not b else asks m && b) ≡ true → 1 + f < R → (if k then 1 + f else 0) < R
      kept m true b f gone z less = less
      kept m false b f gone z less = absurd (not_both gone (snd_true (asks m) b z))

      the_port : (c x : ℕ) (at to : Span) (m : Mode) (k : Bool) (q : Rails) (up down : ℕ) → PortMeets P c x → Covers P K up down (receiving c at x to)
          → Cond (receiving c at x to) (port_shown c x k q) → (f (receiving c at x to) (asks m) ≡ true → T) → (s : PortSpot)
          → port_moves now c x m k q s ≡ true
          → Could (port_moves env c x m k q s) (port_trail (up + (3 + var_height P x + K.written x)) down (var_height P x) (K.acked c) (K.written x)
          (port_of (acks m) k q) s) R
      the_port c x at to m k q up down meets covers i on heard z = cases (same_line (of_channel c) l)
          (λ (h : same_line (of_channel c) l ≡ true).
          inr (low_answer m (now.ack (of_channel c)) _ down (is_low (of_channel c) h) z (within (of_channel c) down h covers.0)))
          (λ (h : same_line (of_channel c) l ≡ false). inl (still_heard env now c x m k q (far (of_channel c) h) z))
      the_port c x at to m k q up down meets covers i on stored z = cases (same_line (of_var x) l)
          (λ (h : same_line (of_var x) l ≡ true).
          inr (kept m k (now.ack (of_var x)) (K.acked c) (is_low (of_var x) h) z
          (within (of_var x) (1 + K.acked c) h (let a = covers.1 in omega (arith, a)))))
          (λ (h : same_line (of_var x) l ≡ false). inl (still_stored env now c x m k q (far (of_var x) h) z))
      the_port c x at to m k q up down meets covers i on (taking j b) z =
          inl (still_taking env now c x m k q j b (ap (λ (r : Line → Rails). r (of_channel c) j b) rails) z)

  -- The acknowledge of a variable rises to which no assignment is under way: a receive stores, which nothing follows.
  pub rises_far : (v : ℕ) → now.ack (of_var v) ≡ true → ((k : Line) → same_line k (of_var v) ≡ false → now.ack k ≡ env.ack k) → now.rail ≡ env.rail
      → 0 < R → (f : Asked) (T : Type 0) → FarLeaves P K env now R f T (Unsaid v)
  rises_far v high far rails room f T = record { at_sites = the_site; at_ports = the_port }
    where
      unsaid : (k : Line) (at : Span) (e : Formula) (u : Pairs (gate_count e)) → Unsaid v (site_statement k at e) (site_shown k e u)
          → same_line k (of_var v) ≡ false
      unsaid k at e u i = i.says

      the_site : (k : Line) (at : Span) (e : Formula) (m : Mode) (u : Pairs (gate_count e)) (up down : ℕ) → suc down ≤ cleared K k
          → Unsaid v (site_statement k at e) (site_shown k e u) → site_moves now k e m u done ≡ true
          → Could (site_moves env k e m u done) (if acks m then down else up) R
      the_site k at e m u up down covers i z = inl (still_done env now k e m u (far k (unsaid k at e u i)) z)

      the_port : (c x : ℕ) (at to : Span) (m : Mode) (k : Bool) (q : Rails) (up down : ℕ) → PortMeets P c x → Covers P K up down (receiving c at x to)
          → Unsaid v (receiving c at x to) (port_shown c x k q) → (f (receiving c at x to) (asks m) ≡ true → T) → (s : PortSpot)
          → port_moves now c x m k q s ≡ true
          → Could (port_moves env c x m k q s) (port_trail (up + (3 + var_height P x + K.written x)) down (var_height P x) (K.acked c) (K.written x)
          (port_of (acks m) k q) s) R
      the_port c x at to m k q up down meets covers i on heard z = inl (still_heard env now c x m k q (far (of_channel c) refl) z)
      the_port c x at to m k q up down meets covers i on stored z = cases (x == v)
          (λ (h : (x == v) ≡ true).
          inr (stored_up m k (now.ack (of_var x)) (K.acked c) R (ap (λ y. now.ack (of_var y)) (same_number x v h) ∙ high) z room))
          (λ (h : (x == v) ≡ false). inl (still_stored env now c x m k q (far (of_var x) h) z))
      the_port c x at to m k q up down meets covers i on (taking j b) z =
          inl (still_taking env now c x m k q j b (ap (λ (r : Line → Rails). r (of_channel c) j b) rails) z)

  -- One rail of a channel moves, that of a receive that takes it.
  module _ (d i : ℕ) (one : Bool) (acks_stay : (k : Line) → now.ack k ≡ env.ack k)
      (moved : (c j : ℕ) (b : Bool) → (now.rail (of_channel c) j b ≡ env.rail (of_channel c) j b)
      ⊎ ((c ≡ d) × (now.rail (of_channel c) j b ≡ not (env.rail (of_channel d) i one)))) where
    rail_leaves : (f : Asked) (T : Type 0) (Cond : Process → Shown → Type 0) → ((c x : ℕ) (at to : Span) (m : Mode) (k : Bool) (q : Rails)
        (up down : ℕ) → PortMeets P c x → Covers P K up down (receiving c at x to) → (f (receiving c at x to) (asks m) ≡ true → T) → (j : ℕ) (b : Bool)
        → port_moves now c x m k q (taking j b) ≡ true → c ≡ d → now.rail (of_channel c) j b ≡ not (env.rail (of_channel d) i one)
        → (if q j b then 2 + var_height P x + K.written x else 5 + var_height P x) < R) → FarLeaves P K env now R f T Cond
    rail_leaves f T Cond taken = record {
      at_sites = λ k at e m u up down covers i z. inl (still_done env now k e m u (acks_stay k) z);
      at_ports = the_port;
    }
      where
        the_port : (c x : ℕ) (at to : Span) (m : Mode) (k : Bool) (q : Rails) (up down : ℕ) → PortMeets P c x → Covers P K up down (receiving c at x to)
            → Cond (receiving c at x to) (port_shown c x k q) → (f (receiving c at x to) (asks m) ≡ true → T) → (s : PortSpot)
            → port_moves now c x m k q s ≡ true
            → Could (port_moves env c x m k q s) (port_trail (up + (3 + var_height P x + K.written x)) down (var_height P x) (K.acked c) (K.written x)
            (port_of (acks m) k q) s) R
        the_port c x at to m k q up down meets covers cond on heard z = inl (still_heard env now c x m k q (acks_stay (of_channel c)) z)
        the_port c x at to m k q up down meets covers cond on stored z = inl (still_stored env now c x m k q (acks_stay (of_var x)) z)
        the_port c x at to m k q up down meets covers cond on (taking j b) z = by (moved c j b)
          where
            by : (now.rail (of_channel c) j b ≡ env.rail (of_channel c) j b)
                ⊎ ((c ≡ d) × (now.rail (of_channel c) j b ≡ not (env.rail (of_channel d) i one)))
                → Could (port_moves env c x m k q (taking j b)) (if q j b then 2 + var_height P x + K.written x else 5 + var_height P x) R
            by (inl same) = inl (still_taking env now c x m k q j b same z)
            by (inr (same, is)) = inr (taken c x at to m k q up down meets covers on j b z same is)

    -- it falls, where at most so many moves follow as the number says
    pub rail_falls_far : env.rail (of_channel d) i one ≡ true → (is_heard (kind_at P.channels d) ≡ true → K.taken d ≤ R) → (f : Asked) (T : Type 0)
        (Cond : Process → Shown → Type 0) → FarLeaves P K env now R f T Cond
    rail_falls_far top room f T Cond = rail_leaves f T Cond taken
      where
        by : (m : Mode) (y r : Bool) (h v : ℕ) → r ≡ false → (if y then not (asks m) && not r else asks m && r) ≡ true → 2 + h + v < R
            → (if y then 2 + h + v else 5 + h) < R
        by m true r h v low z less = less
        by m false r h v low z less = absurd (not_both low (snd_true (asks m) r z))

        taken : (c x : ℕ) (at to : Span) (m : Mode) (k : Bool) (q : Rails) (up down : ℕ) → PortMeets P c x → Covers P K up down (receiving c at x to)
            → (f (receiving c at x to) (asks m) ≡ true → T) → (j : ℕ) (b : Bool)
            → port_moves now c x m k q (taking j b) ≡ true → c ≡ d → now.rail (of_channel c) j b ≡ not (env.rail (of_channel d) i one)
            → (if q j b then 2 + var_height P x + K.written x else 5 + var_height P x) < R
        taken c x at to m k q up down meets covers on j b z same is =
            let a = covers.2 in
            let w : K.taken c ≡ K.taken d = ap K.taken same in
            let most = room (ap (λ n. is_heard (kind_at P.channels n)) (sym same) ∙ meets.heard) in
            by m (q j b) (now.rail (of_channel c) j b) (var_height P x) (K.written x) (is ∙ ap not top) z (omega (arith, a, w, most))

    -- it rises, where the number is great enough if a receive on the channel is asked
    pub rail_rises_far : env.rail (of_channel d) i one ≡ false → (Cond : Process → Shown → Type 0)
        → FarLeaves P K env now R (listens_on d) (is_heard (kind_at P.channels d) ≡ true → 6 + tree_height (channel_width P.channels d) ≤ R) Cond
    rail_rises_far gone Cond =
        rail_leaves (listens_on d) (is_heard (kind_at P.channels d) ≡ true → 6 + tree_height (channel_width P.channels d) ≤ R) Cond taken
      where
        last : (r : Bool) → (r && false) ≡ true → ⊥
        last true e = cc e
        last false e = cc e

        taken : (c x : ℕ) (at to : Span) (m : Mode) (k : Bool) (q : Rails) (up down : ℕ) → PortMeets P c x → Covers P K up down (receiving c at x to)
            → (((c == d) && asks m) ≡ true → is_heard (kind_at P.channels d) ≡ true → 6 + tree_height (channel_width P.channels d) ≤ R) → (j : ℕ) (b : Bool)
            → port_moves now c x m k q (taking j b) ≡ true → c ≡ d → now.rail (of_channel c) j b ≡ not (env.rail (of_channel d) i one)
            → (if q j b then 2 + var_height P x + K.written x else 5 + var_height P x) < R
        taken c x at to m k q up down meets covers on j b z same is = by (q j b) (asks m) refl z
          where
            high : now.rail (of_channel c) j b ≡ true
            high = is ∙ ap not gone

            same_line_too : (c == d) ≡ true
            same_line_too = ap (λ (y : Line). same_line (of_channel c) y) (ap (λ n. of_channel n) (sym same)) ∙ self_line (of_channel c)

            by : (y r : Bool) → asks m ≡ r → (if y then not r && not (now.rail (of_channel c) j b) else r && now.rail (of_channel c) j b) ≡ true
                → (if y then 2 + var_height P x + K.written x else 5 + var_height P x) < R
            by true r e z = absurd (last (not r) (ap (λ n. not r && not n) (sym high) ∙ z))
            by false r e z =
                let a : asks m ≡ true = e ∙ fst_true r (now.rail (of_channel c) j b) z in
                let room = on (ap (λ n. n && asks m) same_line_too ∙ a) (ap (λ n. is_heard (kind_at P.channels n)) (sym same) ∙ meets.heard) in
                let w : var_height P x ≡ tree_height (channel_width P.channels d) = ap tree_height meets.widths
                ∙ ap (λ n. tree_height (channel_width P.channels n)) same in
                omega (arith, room, w)
