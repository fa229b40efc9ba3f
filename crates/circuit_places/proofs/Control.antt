-- Own moves of Q-elements, sequences and loops; and of every statement.
use Rattle.std.proofs.Common.{◌≡◌, ◌≢◌, ℕ, Bool, true, false, List, refl, sym, ap, ◌∙◌, subst, inl, inr}
use Rattle.std.specs.Prelude.{not, ◌&&◌, if◌then◌else◌, Some}
use Rattle.width_check.specs.Processes.{Process, in_turn, repeating, side_by_side, Processes, no_members, and_member, TypedProgram, Choices}
use Rattle.chp_meaning.specs.Terms.{Term, finished, opened, followed, statement_at}
use Rattle.circuit_places.specs.Lines.{of_channel, Seen, Line}
use Rattle.circuit_places.specs.Circuit.{low_guarded, low, low_turn, GuardedSpot, Spot, TurnSpot, BranchSpot, child, latch, next, inner, of_assign, of_send, of_receive, in_members, of_branch, joint, in_this, in_others, of_loop, ask, in_body, in_last, in_member, in_later, turned_guarded, turned_turn, ChoiceSpot, this_choice, other_choice, of_core, of_guard, of_choice, of_round}
use Rattle.circuit_places.proofs.Places.{Mode, idle, running, answered, returning, asks, acks, inner_may, link, GuardedAt, At, TurnAt, BranchesAt, g_rests, g_in, g_past, g_back, rests, at_skip, at_assign, at_send, at_receive, at_turn, at_side, at_body, no_more, and_at, turn_rests, at_last, at_member, at_later, guarded_of, ring_of, turn_of, guarded_cells, cells, turn_cells, Shown, none_shown, guarded_shown, shown, turn_shown, branches_shown, GuardedFits, Fits, TurnFits, BranchesFit, guarded_writing, turn_writing, guarded_moves, moves, turn_moves, branch_moves, at_choice, at_turning, at_closing, control_at, inside_at, ChosenAt, this_one, another, chosen_shown, ChosenFits, chosen_moves}
use Rattle.circuit_places.proofs.Meets.{Meets, TurnMeets, EachMeets, sends, turn_sends, receives, each_receives, ChoiceMeets, choice_sends, choice_receives}
use Rattle.circuit_places.proofs.Left.{Silent, inner_left, again, guarded_left, left, turn_left, Follows, followed_follows, loop_follows, left_done, turn_left_done, guarded_left_past, writing_done, turn_writing_done, guarded_writing_done, ToldBy}
use Rattle.circuit_places.proofs.Stepping.{steps, guarded_steps, turn_steps}
use Rattle.circuit_places.proofs.Flow.{goes, goes_asks, Flow, flow_same, flow_by, Clean, Backed, Quiet, low_of, quiet_of, After, GuardedAfter, TurnAfter, BranchAfter, or_left, or_right, not_both}
use Rattle.circuit_places.proofs.Begin.{idle_is, turn_idle_is, guarded_idle_is, idle_moves, turn_idle_moves, guarded_idle_moves, guarded_past_is, answered_moves, turn_answered_moves, begun, turn_begun, lowered, turn_lowered, flow_begun, flow_then}
use Rattle.circuit_places.proofs.Leaves.{skip_after, send_after, assign_after}
use Rattle.circuit_places.proofs.PortLeaf.{receive_after}
use Rattle.circuit_places.proofs.Talks.{beside, or_false_left, or_false_right}
use Rattle.circuit_places.proofs.Sides.{this_after, others_after, side_after, joint_after}
use Rattle.circuit_places.proofs.CoreMoves.{in_control, in_branch, Stepped}
use Rattle.circuit_places.proofs.AgainMoves.{turning, closing}
use Rattle.circuit_places.proofs.ChoiceMoves.{choice_branches, select_own, select_guard, select_branch, repeat_own, repeat_guard, repeat_branch, repeat_round, closing_own, this_after as this_branch, other_after as other_branch}

inner_goes : (u : Bool) (m n : Mode) → inner_may u m ≡ true → goes m n ≡ true → inner_may u n ≡ true
inner_goes false running running h g = refl
inner_goes false running answered h g = refl
inner_goes true returning returning h g = refl
inner_goes true returning idle h g = refl
inner_goes _ _ _ h g = absurd (cc (h, g))

no_latch : (u : Bool) (m n : Mode) → inner_may u m ≡ true → goes m n ≡ true → (if u then false else acks m) ≡ true → ⊥
no_latch true m n h g e = cc e
no_latch false idle n h g e = cc e
no_latch false running n h g e = cc e
no_latch false answered n h g e = cc g
no_latch false returning n h g e = cc h

no_next : (u : Bool) (m n : Mode) → inner_may u m ≡ true → goes m n ≡ true → (u && not (acks m)) ≡ true → ⊥
no_next true idle n h g e = cc g
no_next true running n h g e = cc h
no_next true answered n h g e = cc e
no_next true returning n h g e = cc e
no_next false m n h g e = cc e

-- what has ended makes no step
no_silent : {Told : Choices → List Process → Type 0} {x y : Term} → x ≡ finished → Silent Told x y → ⊥
no_silent e s = let z : statement_at finished s.act.at ≡ Some s.statement = ap (λ t. statement_at t s.act.at) (sym e) ∙ s.act.stands in cc z

inner_follows : (Told : Choices → List Process → Type 0) (step u : Bool) (m n : Mode) (s x y : Term) → inner_may u m ≡ true → goes m n ≡ true
    → ((m ≡ running → ⊥) → x ≡ finished) → ((n ≡ running → ⊥) → y ≡ finished) → Follows Told step x y
    → Follows Told step (inner_left u m s x) (inner_left u n s y)
inner_follows Told step false running running s x y h g was over r = r
inner_follows Told step false running answered s x y h g was over r = subst (λ (z : Term). Follows Told step x z) (over (λ e. cc e)) r
inner_follows Told step true returning returning s x y h g was over (inl e) = inl (e.0, refl)
inner_follows Told step true returning returning s x y h g was over (inr z) = absurd (no_silent (was (λ e. cc e)) z.1)
inner_follows Told step true returning idle s x y h g was over (inl e) = inl (e.0, refl)
inner_follows Told step true returning idle s x y h g was over (inr z) = absurd (no_silent (was (λ e. cc e)) z.1)
inner_follows Told _ _ _ _ s x y h g was over r = absurd (cc (h, g))

-- a move inside a Q-element
module _ {p : Process} {m : Mode} (env : Seen) (u : Bool) (a : At p m) (h : inner_may u m ≡ true) (s : Spot p) (r : After p m env a s) where
  inner_keeps : (q : GuardedSpot p) → q ≢ inner s → guarded_moves env (g_in u a h) q ≡ true
      → guarded_moves env (g_in u r.to (inner_goes u m r.mode h r.way)) q ≡ true
  inner_keeps child ne e = ap (λ b. if b then u else not u) (goes_asks m r.mode r.way) ∙ e
  inner_keeps latch ne e = absurd (no_latch u m r.mode h r.way e)
  inner_keeps next ne e = absurd (no_next u m r.mode h r.way e)
  inner_keeps (inner q) ne e = r.keeps q (λ (z : q ≡ s). ne (ap (λ x. inner x) z)) e

  inner_after : GuardedAfter p running env (g_in u a h) (inner s)
  inner_after = record {
    mode = running;
    to = g_in u r.to (inner_goes u m r.mode h r.way);
    same = ap (λ b. guarded_of b u false (cells r.to)) (goes_asks m r.mode r.way) ∙ ap (λ x. guarded_of (asks m) u false x) r.same;
    way = refl;
    fits = r.fits;
    flow = r.flow;
    frees = r.frees;
    term = inner_follows (ToldBy env (shown a).read) (steps a s) u m r.mode (opened p) (left env.ack a) (left env.ack r.to) h r.way
        (λ (e : m ≡ running → ⊥). left_done env.ack a e) (λ (e : r.mode ≡ running → ⊥). left_done env.ack r.to e) r.term;
    keeps = inner_keeps;
  }

-- a Q-element's own moves
module _ (P : TypedProgram) {p : Process} (env : Seen) (clean : Clean P env) (meets : Meets P p) where
  child_up : (a : At p idle) (h : inner_may false idle ≡ true) → Backed p (shown a) env → GuardedAfter p running env (g_in false a h) child
  child_up a h back =
      let b = begun P p env meets (quiet_of env (shown a) (idle_is a).1 back) in
      record {
        mode = running;
        to = g_in false b.place refl;
        same = ap (λ x. guarded_of true false false x) (b.same ∙ sym (idle_is a).0);
        way = refl;
        fits = b.fits;
        flow = flow_begun env (shown a) (shown b.place) (idle_is a).1 b.offer b.take;
        frees = λ x i. writing_done env.ack a (λ e. cc e) x;
        term = inl (refl, b.term);
        keeps = keeps b.place;
      }
    where
      keeps : (b : At p running) (q : GuardedSpot p) → q ≢ child → guarded_moves env (g_in false a h) q ≡ true → guarded_moves env (g_in false b refl) q ≡ true
      keeps b child ne z = absurd (ne refl)
      keeps b latch ne z = absurd (cc z)
      keeps b next ne z = absurd (cc z)
      keeps b (inner q) ne z = absurd (not_both (idle_moves env a q) z)

  child_down : (a : At p answered) (h : inner_may true answered ≡ true) → Fits a env → GuardedAfter p running env (g_in true a h) child
  child_down a h f =
      let b = lowered P env clean a f in
      record {
        mode = running;
        to = g_in true b.place refl;
        same = ap (λ x. guarded_of false true false x) b.same;
        way = refl;
        fits = b.fits;
        flow = flow_by env (shown a) (shown a) (shown b.place) (sym b.shows) (flow_same env (shown a));
        frees = λ x i. writing_done env.ack a (λ e. cc e) x;
        term = inl (refl, refl);
        keeps = keeps b.place;
      }
    where
      keeps : (b : At p returning) (q : GuardedSpot p) → q ≢ child → guarded_moves env (g_in true a h) q ≡ true → guarded_moves env (g_in true b refl) q ≡ true
      keeps b child ne z = absurd (ne refl)
      keeps b latch ne z = absurd (cc z)
      keeps b next ne z = absurd (cc z)
      keeps b (inner q) ne z = absurd (not_both (answered_moves P env clean a f q) z)

  latch_up : (a : At p answered) (h : inner_may false answered ≡ true) → Fits a env → GuardedAfter p running env (g_in false a h) latch
  latch_up a h f = record {
    mode = running;
    to = g_in true a refl;
    same = refl;
    way = refl;
    fits = f;
    flow = flow_same env
        (shown a);
    term = inl (refl, refl);
    frees = λ x i. i;
    keeps = keeps;
  }
    where
      keeps : (q : GuardedSpot p) → q ≢ latch → guarded_moves env (g_in false a h) q ≡ true → guarded_moves env (g_in true a refl) q ≡ true
      keeps child ne z = absurd (cc z)
      keeps latch ne z = absurd (ne refl)
      keeps next ne z = absurd (cc z)
      keeps (inner q) ne z = z

  next_up : (a : At p idle) (h : inner_may true idle ≡ true) → GuardedAfter p running env (g_in true a h) next
  next_up a h = record {
    mode = answered;
    to = g_past;
    same = ap (λ x. guarded_of false true true x) (sym (idle_is a).0);
    way = refl;
    fits = tt;
    flow = flow_by env (shown a) (shown a) none_shown (idle_is a).1 (flow_same env (shown a));
    frees = λ x i. writing_done env.ack a (λ e. cc e) x;
    term = inl (refl, refl);
    keeps = keeps;
  }
    where
      keeps : (q : GuardedSpot p) → q ≢ next → guarded_moves env (g_in true a h) q ≡ true → guarded_moves env (g_past {p = p}) q ≡ true
      keeps child ne z = absurd (cc z)
      keeps latch ne z = absurd (cc z)
      keeps next ne z = absurd (ne refl)
      keeps (inner q) ne z = absurd (not_both (idle_moves env a q) z)

  latch_down : GuardedAfter p returning env (g_back true) latch
  latch_down = record {
    mode = returning;
    to = g_back false;
    same = refl;
    way = refl;
    fits = tt;
    flow = flow_same env none_shown;
    term = inl (refl, refl);
    frees = λ x i. refl;
    keeps = keeps;
  }
    where
      keeps : (q : GuardedSpot p) → q ≢ latch → guarded_moves env (g_back {p = p} true) q ≡ true → guarded_moves env (g_back {p = p} false) q ≡ true
      keeps child ne z = absurd (cc z)
      keeps latch ne z = absurd (ne refl)
      keeps next ne z = absurd (cc z)
      keeps (inner q) ne z = absurd (cc z)

  next_down : GuardedAfter p returning env (g_back false) next
  next_down = record {
    mode = idle;
    to = g_rests;
    same = refl;
    way = refl;
    fits = tt;
    flow = flow_same env none_shown;
    term = inl (refl, refl);
    frees = λ x i. refl;
    keeps = keeps;
  }
    where
      keeps : (q : GuardedSpot p) → q ≢ next → guarded_moves env (g_back {p = p} false) q ≡ true → guarded_moves env (g_rests {p = p}) q ≡ true
      keeps child ne z = absurd (cc z)
      keeps latch ne z = absurd (cc z)
      keeps next ne z = absurd (ne refl)
      keeps (inner q) ne z = absurd (cc z)

  guarded_own : {m : Mode} (g : GuardedAt p m) (s : GuardedSpot p) → ((x : Spot p) → s ≢ inner x) → GuardedFits g env → Backed p (guarded_shown g) env
      → guarded_moves env g s ≡ true → GuardedAfter p m env g s
  guarded_own g (inner x) out f back e = absurd (out x refl)
  guarded_own (g_in {m = idle} false a h) child out f back e = child_up a h record { send = back.send; receive = back.receive }
  guarded_own (g_in {m = answered} true a h) child out f back e = child_down a h f
  guarded_own (g_in {m = answered} false a h) latch out f back e = latch_up a h f
  guarded_own (g_in {m = idle} true a h) next out f back e = next_up a h
  guarded_own (g_back true) latch out f back e = latch_down
  guarded_own (g_back false) next out f back e = next_down
  guarded_own (g_in {m = m} true a h) s out f back e = absurd (cc (h, e))
  guarded_own (g_in {m = m} false a h) s out f back e = absurd (cc (h, e))
  guarded_own _ s out f back e = absurd (cc e)

-- a move in a member, seen from the sequence from it on
module _ (P : TypedProgram) {p q : Process} {more : Processes} (env : Seen) where
  member_after : TurnMeets P (and_member q more) → (g : GuardedAt p running) (s : GuardedSpot p)
      → Backed (in_turn (and_member p (and_member q more))) (guarded_shown g) env → GuardedAfter p running env g s
      → TurnAfter (and_member p (and_member q more)) running env (at_member {q = q} {more = more} g) (in_member s)
  member_after meets g s back r = by_mode r.mode r.to r.same r.way r.fits r.flow r.term r.frees r.keeps
    where
      stays : (to : GuardedAt p running) → ((x : GuardedSpot p) → x ≢ s → guarded_moves env g x ≡ true → guarded_moves env to x ≡ true)
          → (x : TurnSpot (and_member p (and_member q more))) → x ≢ in_member s → turn_moves env (at_member {q = q} {more = more} g) x ≡ true
          → turn_moves env (at_member {q = q} {more = more} to) x ≡ true
      stays to keeps (in_member x) ne z = keeps x (λ (e : x ≡ s). ne (ap (λ y. in_member y) e)) z
      stays to keeps (in_later x) ne z = absurd (cc z)

      hands_on : (to : GuardedAt p answered) (b : TurnAt (and_member q more) running)
          → ((x : GuardedSpot p) → x ≢ s → guarded_moves env g x ≡ true → guarded_moves env to x ≡ true) → (x : TurnSpot (and_member p (and_member q more)))
          → x ≢ in_member s → turn_moves env (at_member {q = q} {more = more} g) x ≡ true → turn_moves env (at_later {m = running} to b refl) x ≡ true
      hands_on to b keeps (in_member x) ne z = keeps x (λ (e : x ≡ s). ne (ap (λ y. in_member y) e)) z
      hands_on to b keeps (in_later x) ne z = absurd (cc z)

      by_mode : (m : Mode) (to : GuardedAt p m) → guarded_cells to ≡ turned_guarded p (guarded_cells g) s → goes running m ≡ true → GuardedFits to env
          → Flow env (guarded_shown g) (guarded_shown to)
          → Follows (ToldBy env (guarded_shown g).read) (guarded_steps g s) (guarded_left env.ack g) (guarded_left env.ack to)
          → ((x : ℕ) → guarded_writing env.ack to x ≡ false → guarded_writing env.ack g x ≡ false)
          → ((x : GuardedSpot p) → x ≢ s → guarded_moves env g x ≡ true → guarded_moves env to x ≡ true)
          → TurnAfter (and_member p (and_member q more)) running env (at_member {q = q} {more = more} g) (in_member s)
      by_mode running to same way fits flow term frees keeps = record {
        mode = running;
        to = at_member to;
        same = ap (λ x. turn_of p q more x (low_turn (and_member q more))) same;
        way = refl;
        fits = fits;
        flow = flow;
        frees = frees;
        term = followed_follows (ToldBy env (guarded_shown g).read) (and_member q more) (guarded_steps g s) (guarded_left env.ack g)
            (guarded_left env.ack to) term;
        keeps = stays to keeps;
      }
      by_mode answered to same way fits flow term frees keeps =
          let gone = (guarded_past_is to).1 in
          let quiet : Quiet (in_turn (and_member q more)) env = record {
            send = λ k h. low_of (env.ack k) (λ (e : env.ack k ≡ true). flow.talk k e
                (back.send k (or_right (sends p k) (turn_sends (and_member q more) k) h) e)) (ap (λ (z : Shown). z.talk k) gone);
            receive = λ c h. low_of (env.ack (of_channel c)) (λ (e : env.ack (of_channel c) ≡ true). flow.listen c e
                (back.receive c (or_right (receives p c) (each_receives (and_member q more) c) h) e)) (ap (λ (z : Shown). z.listen c) gone);
          } in
          let b = turn_begun P (and_member q more) env meets quiet in
          record {
            mode = running;
            to = at_later to b.place refl;
            same = ap (λ x. turn_of p q more x (turn_cells b.place)) same ∙ ap (λ x. turn_of p q more (turned_guarded p (guarded_cells g) s) x) b.same;
            way = refl;
            fits = b.fits;
            flow = flow_then env (guarded_shown g) (guarded_shown to) (turn_shown b.place) gone b.offer b.take flow;
            frees = λ x i. frees x (guarded_writing_done env.ack to (λ e. cc e) x);
            term = subst (λ (z : Term). Follows (ToldBy env (guarded_shown g).read) (guarded_steps g s)
                (followed (guarded_left env.ack g) (and_member q more)) z) (sym b.term)
                (subst (λ (z : Term). Follows (ToldBy env (guarded_shown g).read) (guarded_steps g s) (followed (guarded_left env.ack g) (and_member q more))
                (followed z (and_member q more)))
                (guarded_left_past env.ack to)
                (followed_follows (ToldBy env (guarded_shown g).read) (and_member q more) (guarded_steps g s) (guarded_left env.ack g)
                (guarded_left env.ack to) term));
            keeps = hands_on to b.place keeps;
          }
      by_mode idle to same way fits flow term frees keeps = absurd (cc way)
      by_mode returning to same way fits flow term frees keeps = absurd (cc way)

-- how what stands behind a member may go on
data Linked : Mode → Mode → Mode → Mode → Type 0 where
  runs : Linked running answered running running
  ends : Linked running answered running answered
  falls_back : Linked returning idle returning returning
  comes_home : Linked returning idle returning idle

linked : (m k n d : Mode) → link m k n ≡ true → goes n d ≡ true → Linked m k n d
linked running answered running running h g = runs
linked running answered running answered h g = ends
linked running answered running idle h g = absurd (cc g)
linked running answered running returning h g = absurd (cc g)
linked returning idle returning returning h g = falls_back
linked returning idle returning idle h g = comes_home
linked returning idle returning running h g = absurd (cc g)
linked returning idle returning answered h g = absurd (cc g)
linked answered answered answered d h g = absurd (cc g)
linked returning returning answered d h g = absurd (cc g)
linked _ _ _ _ h g = absurd (cc h)

-- a move behind a member
later_after : {p q : Process} {more : Processes} {k n m : Mode} (env : Seen) (g : GuardedAt p k) (t : TurnAt (and_member q more) n) (h : link m k n ≡ true)
    (s : TurnSpot (and_member q more))
    → (d : Mode) (to : TurnAt (and_member q more) d) → turn_cells to ≡ turned_turn (and_member q more) (turn_cells t) s → Linked m k n d → TurnFits to env
    → Flow env (turn_shown t) (turn_shown to) → Follows (ToldBy env (turn_shown t).read) (turn_steps t s) (turn_left env.ack t) (turn_left env.ack to)
    → ((x : ℕ) → turn_writing env.ack to x ≡ false → turn_writing env.ack t x ≡ false)
    → ((x : TurnSpot (and_member q more)) → x ≢ s → turn_moves env t x ≡ true → turn_moves env to x ≡ true)
    → TurnAfter (and_member p (and_member q more)) m env (at_later g t h) (in_later s)
later_after {p = p} {q = q} {more = more} env g t h s running to same runs fits flow term frees keeps = record {
  mode = running;
  to = at_later g to refl;
  same = ap (λ x. turn_of p q more (guarded_cells g) x) same;
  way = refl;
  fits = fits;
  flow = flow;
  frees = frees;
  term = term;
  keeps = here;
}
  where
    here : (x : TurnSpot (and_member p (and_member q more))) → x ≢ in_later s → turn_moves env (at_later {m = running} g t h) x ≡ true
        → turn_moves env (at_later {m = running} g to refl) x ≡ true
    here (in_member x) ne z = z
    here (in_later x) ne z = keeps x (λ (e : x ≡ s). ne (ap (λ y. in_later y) e)) z
later_after {p = p} {q = q} {more = more} env g t h s answered to same ends fits flow term frees keeps = record {
  mode = answered;
  to = at_later g to refl;
  same = ap (λ x. turn_of p q more (guarded_cells g) x) same;
  way = refl;
  fits = fits;
  flow = flow;
  frees = frees;
  term = term;
  keeps = here;
}
  where
    here : (x : TurnSpot (and_member p (and_member q more))) → x ≢ in_later s → turn_moves env (at_later {m = running} g t h) x ≡ true
        → turn_moves env (at_later {m = answered} g to refl) x ≡ true
    here (in_member x) ne z = z
    here (in_later x) ne z = keeps x (λ (e : x ≡ s). ne (ap (λ y. in_later y) e)) z
later_after {p = p} {q = q} {more = more} env g t h s returning to same falls_back fits flow term frees keeps = record {
  mode = returning;
  to = at_later g to refl;
  same = ap (λ x. turn_of p q more (guarded_cells g) x) same;
  way = refl;
  fits = fits;
  flow = flow;
  frees = frees;
  term = term;
  keeps = here;
}
  where
    here : (x : TurnSpot (and_member p (and_member q more))) → x ≢ in_later s → turn_moves env (at_later {m = returning} g t h) x ≡ true
        → turn_moves env (at_later {m = returning} g to refl) x ≡ true
    here (in_member x) ne z = z
    here (in_later x) ne z = keeps x (λ (e : x ≡ s). ne (ap (λ y. in_later y) e)) z
later_after {p = p} {q = q} {more = more} env g t h s idle to same comes_home fits flow term frees keeps = record {
  mode = idle;
  to = turn_rests;
  same = ap (λ x. turn_of p q more x (low_turn (and_member q more))) (sym (guarded_idle_is g))
      ∙ (ap (λ x. turn_of p q more (guarded_cells g) x) (sym (turn_idle_is to).0) ∙ ap (λ x. turn_of p q more (guarded_cells g) x) same);
  way = refl;
  fits = tt;
  flow = flow_by env (turn_shown t) (turn_shown to) none_shown (turn_idle_is to).1 flow;
  frees = λ x i. frees x (turn_writing_done env.ack to (λ e. cc e) x);
  term = subst (λ (z : Term). Follows (ToldBy env (turn_shown t).read) (turn_steps t s) (turn_left env.ack t) z) (turn_left_done env.ack to (λ e. cc e)) term;
  keeps = here;
}
  where
    here : (x : TurnSpot (and_member p (and_member q more))) → x ≢ in_later s → turn_moves env (at_later {m = returning} g t h) x ≡ true
        → turn_moves env (turn_rests {members = and_member p (and_member q more)}) x ≡ true
    here (in_member x) ne z = absurd (cc (guarded_idle_moves env g x, z))
    here (in_later x) ne z = absurd (cc (turn_idle_moves env to x, keeps x (λ (e : x ≡ s). ne (ap (λ y. in_later y) e)) z))

-- the Q-element of a member falls behind what stands there
link_back : (m n : Mode) → link m returning n ≡ true → (m ≡ returning) × (n ≡ answered)
link_back returning answered h = (refl, refl)
link_back _ _ h = absurd (cc h)

no_link : (m n : Mode) → link m running n ≡ true → ⊥
no_link idle n h = cc h
no_link running n h = cc h
no_link answered n h = cc h
no_link returning n h = cc h

behind_after : (P : TypedProgram) {p q : Process} {more : Processes} {k n m : Mode} (env : Seen) → Clean P env
    → (g : GuardedAt p k) (t : TurnAt (and_member q more) n) (h : link m k n ≡ true) (s : GuardedSpot p) → TurnFits t env → guarded_moves env g s ≡ true
    → TurnAfter (and_member p (and_member q more)) m env (at_later g t h) (in_member s)
behind_after P {p = p} {q = q} {more = more} {n = answered} {m = returning} env clean (g_back true) t h latch f e = record {
  mode = returning;
  to = at_later (g_back false) t refl;
  same = refl;
  way = refl;
  fits = f;
  flow = flow_same env (turn_shown t);
  frees = λ x i. i;
  term = inl (refl, refl);
  keeps = here t;
}
  where
    here : (t : TurnAt (and_member q more) answered) (x : TurnSpot (and_member p (and_member q more))) → x ≢ in_member latch
        → turn_moves env (at_later {m = returning} (g_back {p = p} true) t refl) x ≡ true
        → turn_moves env (at_later {m = returning} (g_back {p = p} false) t refl) x ≡ true
    here t (in_member child) ne z = absurd (cc z)
    here t (in_member latch) ne z = absurd (ne refl)
    here t (in_member next) ne z = absurd (cc z)
    here t (in_member (inner x)) ne z = absurd (cc z)
    here t (in_later x) ne z = z
behind_after P {p = p} {q = q} {more = more} {n = answered} {m = returning} env clean (g_back false) t h next f e =
    let b = turn_lowered P env clean t f in
    record {
      mode = returning;
      to = at_later g_rests b.place refl;
      same = ap (λ x. turn_of p q more (low_guarded (low p)) x) b.same;
      way = refl;
      fits = b.fits;
      flow = flow_by env (turn_shown t) (turn_shown t) (turn_shown b.place) (sym b.shows) (flow_same env (turn_shown t));
      frees = λ x i. turn_writing_done env.ack t (λ e. cc e) x;
      term = inl (refl, turn_left_done env.ack b.place (λ e. cc e) ∙ sym (turn_left_done env.ack t (λ e. cc e)));
      keeps = here t f b.place;
    }
  where
    here : (t : TurnAt (and_member q more) answered) → TurnFits t env → (b : TurnAt (and_member q more) returning)
        (x : TurnSpot (and_member p (and_member q more))) → x ≢ in_member next
        → turn_moves env (at_later {m = returning} (g_back {p = p} false) t refl) x ≡ true
        → turn_moves env (at_later {m = returning} (g_rests {p = p}) b refl) x ≡ true
    here t f b (in_member child) ne z = absurd (cc z)
    here t f b (in_member latch) ne z = absurd (cc z)
    here t f b (in_member next) ne z = absurd (ne refl)
    here t f b (in_member (inner x)) ne z = absurd (cc z)
    here t f b (in_later x) ne z = absurd (cc (turn_answered_moves P env clean t f x, z))
behind_after P env clean (g_back true) t h child f e = absurd (cc e)
behind_after P env clean (g_back true) t h next f e = absurd (cc e)
behind_after P env clean (g_back true) t h (inner x) f e = absurd (cc e)
behind_after P env clean (g_back false) t h child f e = absurd (cc e)
behind_after P env clean (g_back false) t h latch f e = absurd (cc e)
behind_after P env clean (g_back false) t h (inner x) f e = absurd (cc e)
behind_after P {n = n} {m = m} env clean (g_back u) t h s f e = absurd (cc ((link_back m n h).0, (link_back m n h).1))
behind_after P {n = n} {m = m} env clean (g_in u a i) t h s f e = absurd (no_link m n h)
behind_after P env clean _ t h s f e = absurd (cc e)

-- a move in the body of a loop
no_ask : (m n : Mode) → goes m n ≡ true → (if asks m then acks m else not (acks m)) ≡ true → ⊥
no_ask idle n g e = cc g
no_ask running n g e = cc e
no_ask answered n g e = cc g
no_ask returning n g e = cc e

body_after : {p : Process} {m : Mode} (env : Seen) (a : At p m) (s : Spot p) → After p m env a s → After (repeating p) running env (at_body a) (in_body s)
body_after {p = p} {m = m} env a s r = record {
  mode = running;
  to = at_body r.to;
  same = ap (λ b. ring_of p b (cells r.to)) (goes_asks m r.mode r.way) ∙ ap (λ x. ring_of p (asks m) x) r.same;
  way = refl;
  fits = r.fits;
  flow = r.flow;
  frees = r.frees;
  term = followed_follows (ToldBy env (shown a).read) (again p) (steps a s) (left env.ack a) (left env.ack r.to) r.term;
  keeps = here;
}
  where
    here : (x : Spot (repeating p)) → x ≢ in_body s → moves env (at_body a) x ≡ true → moves env (at_body r.to) x ≡ true
    here of_loop ne z = z
    here ask ne z = absurd (no_ask m r.mode r.way z)
    here (in_body x) ne z = r.keeps x (λ (e : x ≡ s). ne (ap (λ y. in_body y) e)) z

-- a loop calls for its body, and lets it go
ask_after : (P : TypedProgram) {p : Process} {m : Mode} (env : Seen) → Clean P env → Meets P p → (a : At p m) → Fits a env → Backed p (shown a) env
    → moves env (at_body a) ask ≡ true → After (repeating p) running env (at_body a) ask
ask_after P {p = p} {m = idle} env clean meets a f back e =
    let b = begun P p env meets (quiet_of env (shown a) (idle_is a).1 back) in
    record {
      mode = running;
      to = at_body b.place;
      same = ap (λ x. ring_of p true x) (b.same ∙ sym (idle_is a).0);
      way = refl;
      fits = b.fits;
      flow = flow_begun env (shown a) (shown b.place) (idle_is a).1 b.offer b.take;
      frees = λ x i. writing_done env.ack a (λ e. cc e) x;
      term = loop_follows (ToldBy env (shown a).read) p (left env.ack a) (left env.ack b.place) (left_done env.ack a (λ e. cc e)) b.term;
      keeps = here a b.place;
    }
  where
    here : (a : At p idle) (b : At p running) (x : Spot (repeating p)) → x ≢ ask → moves env (at_body a) x ≡ true → moves env (at_body b) x ≡ true
    here a b of_loop ne z = absurd (cc z)
    here a b ask ne z = absurd (ne refl)
    here a b (in_body x) ne z = absurd (not_both (idle_moves env a x) z)
ask_after P {p = p} {m = answered} env clean meets a f back e =
    let b = lowered P env clean a f in
    record {
      mode = running;
      to = at_body b.place;
      same = ap (λ x. ring_of p false x) b.same;
      way = refl;
      fits = b.fits;
      flow = flow_by env (shown a) (shown a) (shown b.place) (sym b.shows) (flow_same env (shown a));
      frees = λ x i. writing_done env.ack a (λ e. cc e) x;
      term = inl (refl, ap (λ z. followed z (again p)) (left_done env.ack b.place (λ e. cc e) ∙ sym (left_done env.ack a (λ e. cc e))));
      keeps = here a f b.place;
    }
  where
    here : (a : At p answered) → Fits a env → (b : At p returning) (x : Spot (repeating p)) → x ≢ ask → moves env (at_body a) x ≡ true
        → moves env (at_body b) x ≡ true
    here a f b of_loop ne z = absurd (cc z)
    here a f b ask ne z = absurd (ne refl)
    here a f b (in_body x) ne z = absurd (not_both (answered_moves P env clean a f x) z)
ask_after P {m = running} env clean meets a f back e = absurd (cc e)
ask_after P {m = returning} env clean meets a f back e = absurd (cc e)

-- a sequence as a statement, and its last member as a sequence
turn_after : {members : Processes} {m : Mode} (env : Seen) (t : TurnAt members m) (s : TurnSpot members) → TurnAfter members m env t s
    → After (in_turn members) m env (at_turn t) (in_members s)
turn_after {members = members} env t s r =
    record { mode = r.mode; to = at_turn r.to; same = r.same; way = r.way; fits = r.fits; flow = r.flow; term = r.term; frees = r.frees; keeps = here }
  where
    here : (x : Spot (in_turn members)) → x ≢ in_members s → moves env (at_turn t) x ≡ true → moves env (at_turn r.to) x ≡ true
    here (in_members x) ne z = r.keeps x (λ (e : x ≡ s). ne (ap (λ y. in_members y) e)) z

last_after : {p : Process} {m : Mode} (env : Seen) (a : At p m) (s : Spot p) → After p m env a s
    → TurnAfter (and_member p no_members) m env (at_last a) (in_last s)
last_after {p = p} env a s r =
    record { mode = r.mode; to = at_last r.to; same = r.same; way = r.way; fits = r.fits; flow = r.flow; term = r.term; frees = r.frees; keeps = here }
  where
    here : (x : TurnSpot (and_member p no_members)) → x ≢ in_last s → turn_moves env (at_last a) x ≡ true → turn_moves env (at_last r.to) x ≡ true
    here (in_last x) ne z = r.keeps x (λ (e : x ≡ s). ne (ap (λ y. in_last y) e)) z

-- each own move leads to a place again, whatever moved before
mutual
  pub guarded_advance : (P : TypedProgram) {p : Process} {m : Mode} (env : Seen) → Clean P env → Meets P p → (g : GuardedAt p m) (s : GuardedSpot p)
      → GuardedFits g env → Backed p (guarded_shown g) env → guarded_moves env g s ≡ true → GuardedAfter p m env g s
  guarded_advance P env clean meets (g_in u a h) (inner s) f back e = inner_after env u a h s
      (advance P env clean meets a s f record { send = back.send; receive = back.receive } e)
  guarded_advance P env clean meets g child f back e = guarded_own P env clean meets g child (λ x z. cc z) f back e
  guarded_advance P env clean meets g latch f back e = guarded_own P env clean meets g latch (λ x z. cc z) f back e
  guarded_advance P env clean meets g next f back e = guarded_own P env clean meets g next (λ x z. cc z) f back e
  guarded_advance P env clean meets _ (inner s) f back e = absurd (cc e)

  pub advance : (P : TypedProgram) {p : Process} {m : Mode} (env : Seen) → Clean P env → Meets P p → (a : At p m) (s : Spot p) → Fits a env
      → Backed p (shown a) env → moves env a s ≡ true → After p m env a s
  advance P env clean meets rests s f back e = absurd (cc e)
  advance P env clean meets (at_skip m h) s f back e = skip_after env m h s e
  advance P env clean meets (at_assign {x = x} {at = at} {e = d} m u h) (of_assign s) f back e = assign_after P x at d env clean m u h s f e
  advance P env clean meets (at_send {c = c} {at = at} {e = d} m u h) (of_send s) f back e = send_after P c at d env clean m u h s f e
  advance P env clean meets (at_receive {c = c} {x = x} {at = at} {to = to} m k q h)
      (of_receive s) f back e = receive_after P c x at to env clean m k q h s meets f e
  advance P env clean meets (at_turn t) (in_members s) f back e = turn_after env t s
      (turn_advance P env clean meets t s f record { send = back.send; receive = back.receive } e)
  advance P env clean meets (at_side m t b h) (of_branch s) f back e = side_after env m t b h s
      (branch_advance P env clean meets.2 b s f record { send = back.send; receive = back.receive } e)
  advance P env clean meets (at_side m t b h) (joint k) f back e = joint_after env t b k m h f e
  advance P env clean meets (at_body a) (in_body s) f back e = body_after env a s
      (advance P env clean meets a s f record { send = back.send; receive = back.receive } e)
  advance P env clean meets (at_body a) ask f back e = ask_after P env clean meets a f record { send = back.send; receive = back.receive } e
  advance P env clean meets (at_body a) of_loop f back e = absurd (cc e)
  advance P env clean meets (at_choice {choices = choices} (control_at c)) (of_core s) f back e =
      select_own P env clean choices meets.1 meets.2 (in_control c) s f back.send back.receive e
  advance P env clean meets (at_choice {choices = choices} (control_at c)) (of_guard q) f back e =
      select_guard P env clean choices meets.1 meets.2 (in_control c) q f e
  advance P env clean meets (at_choice (control_at c)) (of_choice s) f back e = absurd (cc e)
  advance P env clean meets (at_choice {choices = choices} (inside_at a w)) (of_core s) f back e =
      select_own P env clean choices meets.1 meets.2 (in_branch a w) s f back.send back.receive e
  advance P env clean meets (at_choice (inside_at a w)) (of_guard q) f back e = absurd (cc e)
  advance P env clean meets (at_choice {choices = choices} (inside_at a w)) (of_choice s) f back e =
      select_branch P env clean choices meets.1 meets.2 a w s f e (chosen_advance P env clean meets.2 a s f back.send back.receive e)
  advance P env clean meets (at_turning {choices = choices} (control_at c)) (of_core s) f back e =
      repeat_own P env clean choices meets.1 meets.2 (in_control c) s f back.send back.receive e
  advance P env clean meets (at_turning {choices = choices} (control_at c)) (of_guard q) f back e =
      repeat_guard P env clean choices meets.1 meets.2 (in_control c) q f e
  advance P env clean meets (at_turning (control_at c)) (of_choice s) f back e = absurd (cc e)
  advance P env clean meets (at_turning {choices = choices} (control_at c)) (of_round t) f back e =
      repeat_round P env clean choices meets.1 meets.2 (turning (in_control c)) t f e
  advance P env clean meets (at_turning {choices = choices} (inside_at a w)) (of_core s) f back e =
      repeat_own P env clean choices meets.1 meets.2 (in_branch a w) s f back.send back.receive e
  advance P env clean meets (at_turning (inside_at a w)) (of_guard q) f back e = absurd (cc e)
  advance P env clean meets (at_turning {choices = choices} (inside_at a w)) (of_choice s) f back e =
      repeat_branch P env clean choices meets.1 meets.2 a w s f e (chosen_advance P env clean meets.2 a s f back.send back.receive e)
  advance P env clean meets (at_turning {choices = choices} (inside_at a w)) (of_round t) f back e =
      repeat_round P env clean choices meets.1 meets.2 (turning (in_branch a w)) t f e
  advance P env clean meets (at_closing {choices = choices} c) (of_core s) f back e = closing_own P env clean choices meets.1 meets.2 c s e
  advance P env clean meets (at_closing c) (of_guard q) f back e = absurd (cc e)
  advance P env clean meets (at_closing c) (of_choice s) f back e = absurd (cc e)
  advance P env clean meets (at_closing {choices = choices} c) (of_round t) f back e =
      repeat_round P env clean choices meets.1 meets.2 (closing c) t tt e

  chosen_advance : (P : TypedProgram) {choices : Choices} {k : Mode} (env : Seen) (clean : Clean P env) → ChoiceMeets P choices → (a : ChosenAt choices k)
      (s : ChoiceSpot choices) → ChosenFits a env → ((j : Line) → choice_sends choices j ≡ true → env.ack j ≡ true → (chosen_shown a).talk j ≡ true)
      → ((c : ℕ) → choice_receives choices c ≡ true → env.ack (of_channel c) ≡ true → (chosen_shown a).listen c ≡ true) → chosen_moves env a s ≡ true
      → Stepped (choice_branches P env clean choices) a s
  chosen_advance P env clean meets (this_one {g = g} {p = p} {more = more} a) (this_choice s) f back hears e =
      this_branch P {g = g} {more = more} env clean a s (advance P env clean meets.0 a s f record {
        send = λ j h. back j (or_left (sends p j) (choice_sends more j) h);
        receive = λ c h. hears c (or_left (receives p c) (choice_receives more c) h);
      } e)
  chosen_advance P env clean meets (another {g = g} {p = p} {more = more} a) (other_choice s) f back hears e =
      other_branch P {g = g} {p = p} env clean a s (chosen_advance P env clean meets.1 a s f
      (λ j h. back j (or_right (sends p j) (choice_sends more j) h)) (λ c h. hears c (or_right (receives p c) (choice_receives more c) h)) e)
  chosen_advance P env clean meets (this_one a) (other_choice s) f back hears e = absurd (cc e)
  chosen_advance P env clean meets (another a) (this_choice s) f back hears e = absurd (cc e)

  pub branch_advance : (P : TypedProgram) {members : Processes} {ks : List Mode} (env : Seen) → Clean P env → EachMeets P members
      → (b : BranchesAt members ks) (s : BranchSpot members) → BranchesFit b env → Backed (side_by_side members) (branches_shown b) env
      → branch_moves env b s ≡ true → BranchAfter members ks env b s
  branch_advance P env clean meets no_more s f back e = absurd (cc e)
  branch_advance P env clean meets (and_at {p = p} {more = more} g b) (in_this s) f back e =
      this_after env g b s f.1 (guarded_advance P env clean meets.0 g s f.0 record {
        send = λ k h z. sym (or_false_right ((guarded_shown g).talk k) ((branches_shown b).talk k) ((beside meets.1 g b).not_theirs k h))
            ∙ back.send k (or_left (sends p k) (turn_sends more k) h) z;
        receive = λ c h z. sym (or_false_right ((guarded_shown g).listen c) ((branches_shown b).listen c) ((beside meets.1 g b).deaf_theirs c h))
            ∙ back.receive c (or_left (receives p c) (each_receives more c) h) z;
      } e)
  branch_advance P env clean meets (and_at {p = p} {more = more} g b) (in_others s) f back e =
      others_after env g b s f.0 (branch_advance P env clean meets.2 b s f.1 record {
        send = λ k h z. sym (or_false_left ((guarded_shown g).talk k) ((branches_shown b).talk k) ((beside meets.1 g b).not_mine k h))
            ∙ back.send k (or_right (sends p k) (turn_sends more k) h) z;
        receive = λ c h z. sym (or_false_left ((guarded_shown g).listen c) ((branches_shown b).listen c) ((beside meets.1 g b).deaf_mine c h))
            ∙ back.receive c (or_right (receives p c) (each_receives more c) h) z;
      } e)

  pub turn_advance : (P : TypedProgram) {members : Processes} {m : Mode} (env : Seen) → Clean P env → TurnMeets P members
      → (t : TurnAt members m) (s : TurnSpot members) → TurnFits t env → Backed (in_turn members) (turn_shown t) env → turn_moves env t s ≡ true
      → TurnAfter members m env t s
  turn_advance P env clean meets turn_rests s f back e = absurd (cc e)
  turn_advance P env clean meets (at_last {p = p} a) (in_last s) f back e = last_after env a s
      (advance P env clean meets a s f record {
        send = λ k h. back.send k (or_left (sends p k) false h);
        receive = λ c h. back.receive c
            (or_left (receives p c) false h);
      } e)
  turn_advance P env clean meets (at_member {p = p} {q = q} {more = more} g) (in_member s) f back e =
      member_after P env meets.1 g s record { send = back.send; receive = back.receive }
      (guarded_advance P env clean meets.0 g s f record {
        send = λ k h. back.send k
            (or_left (sends p k) (turn_sends (and_member q more) k) h);
        receive = λ c h. back.receive c
            (or_left (receives p c) (each_receives (and_member q more) c) h);
      } e)
  turn_advance P env clean meets (at_member g) (in_later s) f back e = absurd (cc e)
  turn_advance P env clean meets (at_later {p = p} {q = q} {more = more} {k = k} {n = n} {m = m} g t h) (in_later s) f back e =
      let r = turn_advance P env clean meets.1 t s f record {
        send = λ k h. back.send k
            (or_right (sends p k) (turn_sends (and_member q more) k) h);
        receive = λ c h. back.receive c
            (or_right (receives p c) (each_receives (and_member q more) c) h);
      } e in
      later_after env g t h s r.mode r.to r.same (linked m k n r.mode h r.way) r.fits r.flow r.term r.frees r.keeps
  turn_advance P env clean meets (at_later g t h) (in_member s) f back e = behind_after P env clean g t h s f e
