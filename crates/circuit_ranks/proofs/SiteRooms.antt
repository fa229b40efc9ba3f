-- What a program's sites leave of `longest`: of a line that has sites, its way from the rails to the step, and how long it takes to clear; and what
-- follows the falls of a channel's lines.
--
-- P: the program; held, down: as in trails; p, q, more: statements; c, k: channels; x, v: variables; s: what is known at a site; z: that a site is one
-- of those that are looked for.
use Rattle.std.proofs.Common.{◌≡◌, ◌≢◌, ℕ, suc, ◌+◌, ◌-◌, ◌≤◌, ◌==◌, Bool, true, false, refl, sym, ap, ◌∙◌, subst, arith}
use Rattle.std.specs.Prelude.{◌||◌, if◌then◌else◌, max}
use Rattle.std.proofs.Math.Nat.{le-max_left, le-max_right, max-le}
use Rattle.chp_base.specs.declared.span.Span.{Span}
use Rattle.chp_base.specs.declared.channel.Kind.{Kind}
use Rattle.chp_base.specs.declared.channel.Kind.TheVariants.{In, Out, Chan}
use Rattle.width_check.specs.Processes.{Formula, Process, skipping, assigning, sending, receiving, in_turn, side_by_side, choosing, repeating, Processes, no_members, and_member, member_count, Choices, no_choices, and_choice, choice_count, TypedProgram}
use Rattle.width_check.specs.Typing.{kind_at, channel_width}
use Rattle.width_check.specs.Reads.{reads}
use Rattle.circuit_places.specs.Lines.{Line, of_channel, of_var}
use Rattle.circuit_places.specs.Circuit.{Bits, Cells, BranchCells, ChoiceCells, TurnCells}
use Rattle.circuit_places.proofs.RailLemmas.{fst_true}
use Rattle.circuit_places.proofs.LineNames.{same_number}
use Rattle.circuit_places.proofs.Flow.{not_both, or_left, or_map}
use Rattle.circuit_places.proofs.Talks.{either}
use Rattle.circuit_places.proofs.Meets.{Meets, sends, turn_sends, choice_sends, receives, each_receives, choice_receives}
use Rattle.round_time.specs.Longest.{guards_depth, depth, tree_height, var_height, over_sites, rails_fall, assign_holds, writes_fall, receive_clears, send_first, receive_first, assign_first, first, turn_first, low, within, longest}
use Rattle.circuit_time.proofs.Requests.{first_some}
use Rattle.circuit_pace.proofs.TrailsWithin.{Within, sends_hold}
use Rattle.circuit_pace.proofs.EverySite.{OfSite, EverySite, EveryTurn, EveryBranch, EveryChoice, downs_most, within_each, site_map, site_both}
use Rattle.circuit_pace.proofs.Counts.{acked_at, acked_of, written_of, taken_at, taken_of, Counted, here_is, counted, root_within, counts_leave}
use Rattle.circuit_ranks.proofs.Ranks.{listens_on, is_asked, turn_asked, branch_asked, choice_asked, is_received, some_received, choice_received}

-- functions that say whether a statement has a site of some kind
pub record OfSites (f : Process → Bool) (g : Processes → Bool) (h : Choices → Bool) : Type 0 where
  pub skips : f skipping ≡ false
  pub turns : (ms : Processes) → f (in_turn ms) ≡ g ms
  pub sides : (ms : Processes) → f (side_by_side ms) ≡ g ms
  pub loops : (p : Process) → f (repeating p) ≡ f p
  pub chooses : (again : Bool) (cs : Choices) → f (choosing again cs) ≡ h cs
  pub no_more : g no_members ≡ false
  pub members : (p : Process) (more : Processes) → g (and_member p more) ≡ (f p || g more)
  pub no_arms : h no_choices ≡ false
  pub arms : (e : Formula) (p : Process) (more : Choices) → h (and_choice e p more) ≡ (f p || h more)

senders : (k : Line) → OfSites (λ p. sends p k) (λ ms. turn_sends ms k) (λ cs. choice_sends cs k)
senders k = record {
  skips = refl;
  turns = λ ms. refl;
  sides = λ ms. refl;
  loops = λ p. refl;
  chooses = λ again cs. refl;
  no_more = refl;
  members = λ p more. refl;
  no_arms = refl;
  arms = λ e p more. refl;
}

receivers : (c : ℕ) → OfSites (λ p. receives p c) (λ ms. each_receives ms c) (λ cs. choice_receives cs c)
receivers c = record {
  skips = refl;
  turns = λ ms. refl;
  sides = λ ms. refl;
  loops = λ p. refl;
  chooses = λ again cs. refl;
  no_more = refl;
  members = λ p more. refl;
  no_arms = refl;
  arms = λ e p more. refl;
}

takers : (v : ℕ) → OfSites (is_received v) (some_received v) (choice_received v)
takers v = record {
  skips = refl;
  turns = λ ms. refl;
  sides = λ ms. refl;
  loops = λ p. refl;
  chooses = λ again cs. refl;
  no_more = refl;
  members = λ p more. refl;
  no_arms = refl;
  arms = λ e p more. refl;
}

-- what follows of each such site follows where there is one
module _ (P : TypedProgram) {f : Process → Bool} {g : Processes → Bool} {h : Choices → Bool} (o : OfSites f g h) (Q : OfSite) (G : Type 0)
    (on_assign : (held down x : ℕ) (at : Span) (e : Formula) → Q held down (assigning x at e) → f (assigning x at e) ≡ true → G)
    (on_send : (held down c : ℕ) (at : Span) (e : Formula) → Q held down (sending c at e) → f (sending c at e) ≡ true → G)
    (on_receive : (held down c : ℕ) (at : Span) (x : ℕ) (to : Span) → Q held down (receiving c at x to) → f (receiving c at x to) ≡ true → G) where
  mutual
    pub some_site : (held down : ℕ) (p : Process) → EverySite P Q held down p → f p ≡ true → G
    some_site held down skipping e z = absurd (not_both o.skips z)
    some_site held down (assigning x at d) e z = on_assign held down x at d e z
    some_site held down (sending c at d) e z = on_send held down c at d e z
    some_site held down (receiving c at x to) e z = on_receive held down c at x to e z
    some_site held down (in_turn ms) e z = turn_site held down ms e (sym (o.turns ms) ∙ z)
    some_site held down (side_by_side ms) e z =
        branch_site (suc (tree_height (member_count ms) + (held + (2 + tree_height (member_count ms) + down)))) ms e (sym (o.sides ms) ∙ z)
    some_site held down (repeating p) e z = some_site 1 0 p e (sym (o.loops p) ∙ z)
    some_site held down (choosing false cs) e z = choice_site (held + 3) (1 + down) cs e (sym (o.chooses false cs) ∙ z)
    some_site held down (choosing true cs) e z = choice_site 4 (3 + guards_depth cs) cs e (sym (o.chooses true cs) ∙ z)

    turn_site : (held down : ℕ) (ms : Processes) → EveryTurn P Q held down ms → g ms ≡ true → G
    turn_site held down no_members e z = absurd (not_both o.no_more z)
    turn_site held down (and_member p no_members) e z = either (f p) (g no_members) (sym (o.members p no_members) ∙ z) (λ y. some_site held down p e y)
        (λ y. absurd (not_both o.no_more y))
    turn_site held down (and_member p (and_member q more)) e z =
        either (f p) (g (and_member q more)) (sym (o.members p (and_member q more)) ∙ z)
        (λ y. some_site 2 (suc (turn_first P (and_member q more) - 1)) p e.0 y) (λ y. turn_site (held + 2) down (and_member q more) e.1 y)

    branch_site : (down : ℕ) (ms : Processes) → EveryBranch P Q down ms → g ms ≡ true → G
    branch_site down no_members e z = absurd (not_both o.no_more z)
    branch_site down (and_member p more) e z =
        either (f p) (g more) (sym (o.members p more) ∙ z) (λ y. some_site 2 down p e.0 y) (λ y. branch_site down more e.1 y)

    choice_site : (held down : ℕ) (cs : Choices) → EveryChoice P Q held down cs → h cs ≡ true → G
    choice_site held down no_choices e z = absurd (not_both o.no_arms z)
    choice_site held down (and_choice d p more) e z =
        either (f p) (h more) (sym (o.arms d p more) ∙ z) (λ y. some_site held down p e.0 y) (λ y. choice_site held down more e.1 y)

-- what is known at each site
pub record AtSite (P : TypedProgram) (held down : ℕ) (q : Process) : Type 0 where
  pub inside : Within P (longest P) held down q
  pub meets : Meets P q
  pub counted : Counted P held down q

if_so : (t : Bool) (a b : ℕ) → a ≤ b → (if t then a else 0) ≤ b
if_so true a b e = e
if_so false a b e = omega arith

rails_some : (P : TypedProgram) (kind : Kind) (c : ℕ) → 1 ≤ sends_hold P c → 1 ≤ rails_fall P kind c
rails_some P In c e = omega arith
rails_some P Out c e = e
rails_some P Chan c e = e

holds_some : (own : Bool) (held e : ℕ) → 2 ≤ assign_holds own held e
holds_some false held e = omega arith
holds_some true held e = omega arith

assign_long : (own : Bool) (e h : ℕ) → 4 + h ≤ assign_first own e h
assign_long false e h = omega arith
assign_long true e h = omega arith

send_long : (kind : Kind) (e h : ℕ) → kind ≢ Out → 8 + h ≤ send_first kind e h
send_long Out e h ne = absurd (ne refl)
send_long In e h ne = omega arith
send_long Chan e h ne = omega arith

pub long : (P : TypedProgram) → 2 + first P P.body ≤ longest P
long P =
    let b = le-max_right (within P P.body) (max (2 + first P P.body) (low P 2 P.body + 2)) in
    let c = le-max_left (2 + first P P.body) (low P 2 P.body + 2) in
    omega (arith, b, c)

pub long_some : (P : TypedProgram) → 3 ≤ longest P
long_some P = let a = long P in let b = first_some P P.body in omega (arith, a, b)

module _ (P : TypedProgram) (meets : Meets P P.body) where
  at_sites : EverySite P (AtSite P) 2 1 P.body
  at_sites =
      let w = within_each P (longest P) 2 1 P.body (root_within P) meets in
      site_map P (λ held down q. (Within P (longest P) held down q × Meets P q) × Counted P held down q) (AtSite P)
      (λ held down q e. record { inside = e.0.0; meets = e.0.1; counted = e.1 }) 2 1 P.body
      (site_both P (λ held down q. Within P (longest P) held down q × Meets P q) (Counted P) 2 1 P.body w (counted P))

  written_leaves : (x : ℕ) → written_of P x ≤ longest P - (writes_fall P x + 2 + var_height P x)
  written_leaves x = (counts_leave P meets).written x

  -- at an assignment, and at a receive
  at_assign : (held down x : ℕ) (at : Span) (e : Formula) → AtSite P held down (assigning x at e)
      → (3 + var_height P x + written_of P x ≤ longest P) × (4 + var_height P x ≤ longest P)
  at_assign held down x at e s =
      let l = s.inside.firsts in
      let f = assign_long (reads x e) (depth e) (var_height P x) in
      let w = here_is x (assign_holds (reads x e) held (depth e)) (writes_fall P x) (s.inside.writes x) in
      let h = holds_some (reads x e) held (depth e) in
      let n = here_is x (suc down) (written_of P x) (s.counted.1.0 x) in
      let a = written_leaves x in
      (omega (arith, w, h, n, a), omega (arith, l, f))

  at_receive : (held down c : ℕ) (at : Span) (x : ℕ) (to : Span) → AtSite P held down (receiving c at x to)
      → (2 + acked_of P c ≤ written_of P x) × (5 + var_height P x + written_of P x ≤ longest P)
  at_receive held down c at x to s =
      let w = here_is x (max (rails_fall P (kind_at P.channels c) c) (held + 1) + 2) (writes_fall P x) (s.inside.writes x) in
      let m = le-max_right (rails_fall P (kind_at P.channels c) c) (held + 1) in
      let n = here_is x (2 + acked_of P c) (written_of P x) (s.counted.1.0 x) in
      let a = written_leaves x in
      (n, omega (arith, w, m, n, a))

  -- ---- a channel's falls
  pub acked_less : (c : ℕ) → acked_of P c ≤ longest P - 3
  acked_less c = downs_most P (acked_at c) (longest P - 3) 2 1 P.body
      (site_map P (AtSite P) (λ held down q. acked_at c q down ≤ longest P - 3) at_site 2 1 P.body at_sites)
    where
      at_site : (held down : ℕ) (q : Process) → AtSite P held down q → acked_at c q down ≤ longest P - 3
      at_site held down (sending k at e) s =
          let l = s.inside.lows in
          let n = here_is k (held + depth e + 2) (sends_hold P k) (s.inside.sends k) in
          let f = rails_some P (kind_at P.channels k) k (omega (arith, n)) in
          let m = le-max_left (rails_fall P (kind_at P.channels k) k + 2) (over_sites (receive_clears P k) 2 P.body) in
          if_so (k == c) (suc down) (longest P - 3) (omega (arith, l, f, m))
      at_site held down (receiving k at x to) s =
          let a = at_receive held down k at x to s in
          let b = a.0 in
          let d = a.1 in
          let n = here_is k (suc down) (acked_of P k) (s.counted.0 k) in
          if_so (k == c) (suc down) (longest P - 3) (omega (arith, b, d, n))
      at_site held down skipping s = omega arith
      at_site held down (assigning x at e) s = omega arith
      at_site held down (in_turn ms) s = omega arith
      at_site held down (side_by_side ms) s = omega arith
      at_site held down (repeating p) s = omega arith
      at_site held down (choosing again cs) s = omega arith

  pub taken_less : (c : ℕ) → taken_of P c ≤ longest P - 2
  taken_less c = max-le acked (downs_most P (taken_at P c) (longest P - 2) 2 1 P.body
      (site_map P (AtSite P) (λ held down q. taken_at P c q down ≤ longest P - 2) at_site 2 1 P.body at_sites))
    where
      acked : acked_of P c ≤ longest P - 2
      acked = let a = acked_less c in omega (arith, a)

      at_site : (held down : ℕ) (q : Process) → AtSite P held down q → taken_at P c q down ≤ longest P - 2
      at_site held down (receiving k at x to) s =
          let a = at_receive held down k at x to s in
          let d = a.1 in
          if_so (k == c) (3 + var_height P x + written_of P x) (longest P - 2) (omega (arith, d))
      at_site held down (assigning x at e) s = omega arith
      at_site held down (sending k at e) s = omega arith
      at_site held down skipping s = omega arith
      at_site held down (in_turn ms) s = omega arith
      at_site held down (side_by_side ms) s = omega arith
      at_site held down (repeating p) s = omega arith
      at_site held down (choosing again cs) s = omega arith

  -- ---- lines that have sites: a variable that is written
  pub written_room : (v : ℕ) → sends P.body (of_var v) ≡ true
      → (3 + var_height P v + written_of P v ≤ longest P) × (4 + var_height P v ≤ longest P)
  written_room v = some_site P (senders (of_var v)) (AtSite P) (Room v) on_assign (λ held down c at e s z. absurd (cc z)) on_receive 2 1 P.body at_sites
    where
      Room : ℕ → Type 0
      Room x = (3 + var_height P x + written_of P x ≤ longest P) × (4 + var_height P x ≤ longest P)

      on_assign : (held down x : ℕ) (at : Span) (e : Formula) → AtSite P held down (assigning x at e) → (x == v) ≡ true → Room v
      on_assign held down x at e s z = subst Room (same_number x v z) (at_assign held down x at e s)

      on_receive : (held down c : ℕ) (at : Span) (x : ℕ) (to : Span) → AtSite P held down (receiving c at x to) → (x == v) ≡ true → Room v
      on_receive held down c at x to s z =
          let a = at_receive held down c at x to s in
          let b = a.0 in
          let d = a.1 in
          subst Room (same_number x v z) (omega (arith, d), omega (arith, b, d))

  -- by a receive
  pub received_room : (v : ℕ) → is_received v P.body ≡ true → 7 + var_height P v ≤ longest P
  received_room v = some_site P (takers v) (AtSite P) (7 + var_height P v ≤ longest P) (λ held down x at e s z. absurd (cc z))
      (λ held down c at e s z. absurd (cc z)) on_receive 2 1 P.body at_sites
    where
      on_receive : (held down c : ℕ) (at : Span) (x : ℕ) (to : Span) → AtSite P held down (receiving c at x to) → (x == v) ≡ true
          → 7 + var_height P v ≤ longest P
      on_receive held down c at x to s z =
          let a = at_receive held down c at x to s in
          let b = a.0 in
          let d = a.1 in
          subst (λ (i : ℕ). 7 + var_height P i ≤ longest P) (same_number x v z) (omega (arith, b, d))

  -- a channel that is sent on, and one of the environment's that is received on
  pub sent_room : (c : ℕ) → sends P.body (of_channel c) ≡ true → kind_at P.channels c ≢ Out → 8 + tree_height (channel_width P.channels c) ≤ longest P
  sent_room c = some_site P (senders (of_channel c)) (AtSite P) (Room c) (λ held down x at e s z. absurd (cc z)) on_send
      (λ held down k at x to s z. absurd (cc z)) 2 1 P.body at_sites
    where
      Room : ℕ → Type 0
      Room k = kind_at P.channels k ≢ Out → 8 + tree_height (channel_width P.channels k) ≤ longest P

      on_send : (held down k : ℕ) (at : Span) (e : Formula) → AtSite P held down (sending k at e) → (k == c) ≡ true → Room c
      on_send held down k at e s z = subst Room (same_number k c z) (λ ne.
          let l = s.inside.firsts in
          let f = send_long (kind_at P.channels k) (depth e) (tree_height (channel_width P.channels k)) ne in
          omega (arith, l, f))

  pub heard_room : (c : ℕ) → receives P.body c ≡ true → kind_at P.channels c ≡ In → 8 + tree_height (channel_width P.channels c) ≤ longest P
  heard_room c = some_site P (receivers c) (AtSite P) (Room c) (λ held down x at e s z. absurd (cc z)) (λ held down k at e s z. absurd (cc z)) on_receive
      2 1 P.body at_sites
    where
      Room : ℕ → Type 0
      Room k = kind_at P.channels k ≡ In → 8 + tree_height (channel_width P.channels k) ≤ longest P

      on_receive : (held down k : ℕ) (at : Span) (x : ℕ) (to : Span) → AtSite P held down (receiving k at x to) → (k == c) ≡ true → Room c
      on_receive held down k at x to s z = subst Room (same_number k c z) (λ kind.
          let l = s.inside.firsts in
          let f : receive_first (kind_at P.channels k) (var_height P x) ≡ 8 + var_height P x = ap (λ (i : Kind). receive_first i (var_height P x)) kind in
          let w : var_height P x ≡ tree_height (channel_width P.channels k) = ap tree_height s.meets.widths in
          omega (arith, l, f, w))

-- a receive that is asked is one of the program's
module _ (c : ℕ) where
  mutual
    pub listened : (p : Process) (r : Bool) (x : Cells p) → is_asked (listens_on c) p r x ≡ true → receives p c ≡ true
    listened skipping r x z = absurd (cc z)
    listened (assigning y at e) r x z = absurd (cc z)
    listened (sending k at e) r x z = absurd (cc z)
    listened (receiving k at y to) r x z = fst_true (k == c) r z
    listened (in_turn ms) r x z = turn_listened ms r x z
    listened (side_by_side ms) r x z = branch_listened ms x.branches z
    listened (repeating p) r x z = listened p x.ask x.inner z
    listened (choosing false cs) r x z = choice_listened cs x.started x.branches z
    listened (choosing true cs) r x z = choice_listened cs x.core.started x.core.branches z

    turn_listened : (ms : Processes) (r : Bool) (x : TurnCells ms) → turn_asked (listens_on c) ms r x ≡ true → each_receives ms c ≡ true
    turn_listened no_members r x z = absurd (cc z)
    turn_listened (and_member p no_members) r x z = or_left (receives p c) false (listened p r x z)
    turn_listened (and_member p (and_member q more)) r x z =
        or_map (is_asked (listens_on c) p x.member.child x.member.inner) (turn_asked (listens_on c) (and_member q more) x.member.next x.later) (receives p c)
        (each_receives (and_member q more) c) (λ y. listened p x.member.child x.member.inner y)
        (λ y. turn_listened (and_member q more) x.member.next x.later y) z

    branch_listened : (ms : Processes) (x : BranchCells ms) → branch_asked (listens_on c) ms x ≡ true → each_receives ms c ≡ true
    branch_listened no_members x z = absurd (cc z)
    branch_listened (and_member p more) x z =
        or_map (is_asked (listens_on c) p x.0.child x.0.inner) (branch_asked (listens_on c) more x.1) (receives p c) (each_receives more c)
        (λ y. listened p x.0.child x.0.inner y) (λ y. branch_listened more x.1 y) z

    choice_listened : (cs : Choices) (b : Bits (choice_count cs)) (x : ChoiceCells cs) → choice_asked (listens_on c) cs b x ≡ true
        → choice_receives cs c ≡ true
    choice_listened no_choices b x z = absurd (cc z)
    choice_listened (and_choice g p more) b x z =
        or_map (is_asked (listens_on c) p b.0 x.0) (choice_asked (listens_on c) more b.1 x.1) (receives p c) (choice_receives more c)
        (λ y. listened p b.0 x.0 y) (λ y. choice_listened more b.1 x.1 y) z
