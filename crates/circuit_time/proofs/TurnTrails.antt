-- Own moves of sequences and loops.
--
-- P: the program; K: how many moves follow the falls of lines; g: where a member is; t: where what stands behind it is; h: how both are
-- linked; s, q: spots; z: that a rule fires; l: what is said of the move of a part.
use Rattle.std.proofs.Common.{◌≡◌, ◌≢◌, ℕ, ◌+◌, ◌-◌, ◌<◌, ◌≤◌, Bool, true, false, refl, sym, ap, ◌∙◌, subst, inl, inr, arith}
use Rattle.std.specs.Prelude.{if◌then◌else◌}
use Rattle.width_check.specs.Processes.{Process, in_turn, Processes, no_members, and_member, TypedProgram}
use Rattle.function_blocks.specs.Rails.{one_rule_fires}
use Rattle.circuit_places.specs.Lines.{Line, of_channel, Seen}
use Rattle.circuit_places.specs.Circuit.{Cells, QElementCells, low_turn, GuardedSpot, child, latch, next, inner, Spot, in_members, TurnSpot, in_last, in_member, in_later, guarded_rule, rule, turn_rule, turned_guarded, flipped, turned_turn}
use Rattle.circuit_places.proofs.Modes.{goes}
use Rattle.circuit_places.proofs.Flow.{Clean, Backed, Quiet, GuardedAfter, low_of, or_right, not_both}
use Rattle.circuit_places.proofs.Meets.{TurnMeets, sends, turn_sends, receives, each_receives}
use Rattle.circuit_places.proofs.Begin.{guarded_past_is, turn_answered_moves}
use Rattle.circuit_places.proofs.Places.{Mode, idle, running, answered, returning, asks, acks, link, Shown, GuardedAt, g_in, g_back, At, at_turn, TurnAt, at_last, at_member, at_later, guarded_cells, cells, turn_cells, guarded_shown, TurnFits, guarded_moves, moves, turn_moves, next_is, link_asks, link_next, link_acks, turn_answer_is, low_turn_answer, low_turn_quiet, low_quiet, low_answer, turn_can_is, guarded_can_is}
use Rattle.circuit_places.proofs.StillSteps.{turn_rises, turn_value}
use Rattle.round_time.specs.Longest.{turn_first}
use Rattle.circuit_time.proofs.Trails.{Clearing, back, turn_back, guarded_trail, trail, turn_trail}
use Rattle.circuit_time.proofs.Requests.{Plain, turn_asked}
use Rattle.circuit_time.proofs.Releases.{turn_released}
use Rattle.circuit_time.proofs.Spots.{members_apart, last_apart, member_apart, later_apart}
use Rattle.circuit_time.proofs.OwnTrails.{Shorter, Led, TurnLed, GuardedLed}

-- a spot of a part as one of the whole
pub wrapped : {S T : Type 0} (s q : S) (v w : T) → (s ≢ q → v ≢ w) → (could : Bool) (now before of_s : ℕ) → Shorter s q could now before of_s
    → Shorter v w could now before of_s
wrapped s q v w ne could now before of_s (inl less) = inl less
wrapped s q v w ne could now before of_s (inr (a, b, c)) = inr (ne a, b, c)

-- the numbers of a Q-element's next request
guarded_less : (P : TypedProgram) (K : Clearing) (plus low_end high_end : ℕ) (p : Process) (x : QElementCells (Cells p)) (s : GuardedSpot p)
    → low_end ≤ high_end → guarded_trail P K plus low_end p x s ≤ guarded_trail P K plus high_end p x s
guarded_less P K plus i j p x child less = omega arith
guarded_less P K plus i j p x latch less = by x.latch
  where
    by : (b : Bool) → (if b then 1 + i else 1 + back P K (1 + plus) p x.inner) ≤ (if b then 1 + j else 1 + back P K (1 + plus) p x.inner)
    by true = omega (arith, less)
    by false = omega arith
guarded_less P K plus i j p x next less = by x.next
  where
    by : (b : Bool) → (if b then i else plus) ≤ (if b then j else plus)
    by true = omega (arith, less)
    by false = omega arith
guarded_less P K plus i j p x (inner s) less = omega arith

-- how a Q-element is linked that falls
link_back : (m n : Mode) → link m returning n ≡ true → (m ≡ returning) × (n ≡ answered)
link_back returning answered h = (refl, refl)
link_back _ _ h = absurd (cc h)

no_link : (m n : Mode) → link m running n ≡ true → ⊥
no_link idle n h = cc h
no_link running n h = cc h
no_link answered n h = cc h
no_link returning n h = cc h

module _ (P : TypedProgram) (K : Clearing) (held down : ℕ) (env : Seen) where
  -- a member that isn't the last one
  module _ {p q : Process} {more : Processes} where
    pub quiet_behind : (g : GuardedAt p running) (s : GuardedSpot p) → Backed (in_turn (and_member p (and_member q more))) (guarded_shown g) env
        → GuardedAfter p running env g s
        → (turned_guarded p (guarded_cells g) s).next ≡ true → Quiet (in_turn (and_member q more)) env
    quiet_behind g s behind r high = by r.mode r.to r.way (sym (next_is r.to) ∙ (ap (λ (x : QElementCells
        (Cells p)). x.next) r.same ∙ high)) r.flow.talk r.flow.listen
      where
        by : (m : Mode) (to : GuardedAt p m) → goes running m ≡ true → acks m ≡ true
            → ((k : Line) → env.ack k ≡ true → (guarded_shown g).talk k ≡ true → (guarded_shown to).talk k ≡ true)
            → ((c : ℕ) → env.ack (of_channel c) ≡ true → (guarded_shown g).listen c ≡ true → (guarded_shown to).listen c ≡ true)
            → Quiet (in_turn (and_member q more)) env
        by idle to way a talk listen = absurd (cc way)
        by running to way a talk listen = absurd (cc a)
        by returning to way a talk listen = absurd (cc way)
        by answered to way a talk listen = record {
          send = λ k h. low_of (env.ack k) (λ (e : env.ack k ≡ true). talk k e (behind.send k (or_right (sends p k) (turn_sends (and_member q more) k) h) e))
              (ap (λ (z : Shown). z.talk k) (guarded_past_is to).1);
          receive = λ c h. low_of (env.ack (of_channel c))
              (λ (e : env.ack (of_channel c) ≡ true). listen c e (behind.receive c (or_right (receives p c) (each_receives (and_member q more) c) h) e))
              (ap (λ (z : Shown). z.listen c) (guarded_past_is to).1);
        }

    pub member_led : TurnMeets P (and_member q more) → (g : GuardedAt p running) (s : GuardedSpot p)
        → Backed (in_turn (and_member p (and_member q more))) (guarded_shown g) env
        → GuardedAfter p running env g s
        → GuardedLed P K (turn_first P (and_member q more) - 1) (turn_back P K down (and_member q more) (low_turn (and_member q more))) p running env g s
        → TurnLed P K held down (and_member p (and_member q more)) running env (at_member g) (in_member s)
    member_led meets g s behind r l = record {
      each = here;
      up = λ e z. absurd (not_both (low_turn_answer (and_member q more)) z);
      falls = λ e z. absurd (cc e);
      less = omega arith;
    }
      where
        asks_later : (b : Bool) → (turned_guarded p (guarded_cells g) s).next ≡ b → (w : TurnSpot (and_member q more))
            → one_rule_fires (turn_rule (and_member q more) env b (low_turn (and_member q more)) w) ≡ true → (turn_rises w ≡ true
            → turn_value (and_member q more) (low_turn (and_member q more)) w ≡ true)
            → turn_trail P K (held + 2) down (and_member q more) (low_turn (and_member q more)) w
            < guarded_trail P K (turn_first P (and_member q more) - 1) (turn_back P K down (and_member q more) (low_turn (and_member q more))) p
            (guarded_cells g) s
        asks_later false e w z plain = absurd (not_both (low_turn_quiet (and_member q more) env w) z)
        asks_later true e w z plain =
            let a = turn_asked P K (held + 2) down (and_member q more) env meets (quiet_behind g s behind r e) w z plain in
            let b = l.up refl e in
            omega (arith, a, b)

        here : (w : TurnSpot (and_member p (and_member q more)))
            → one_rule_fires (turn_rule (and_member p (and_member q more)) env true (turned_turn (and_member p (and_member q more)) (turn_cells
            (at_member {q = q} {more = more} g)) (in_member s)) w) ≡ true
            → (turn_rises w ≡ true → turn_value (and_member p (and_member q more)) (turned_turn (and_member p (and_member q more)) (turn_cells
            (at_member {q = q} {more = more} g)) (in_member s)) w ≡ true)
            → Shorter (in_member s) w (turn_moves env (at_member {q = q} {more = more} g) w)
            (turn_trail P K held down (and_member p (and_member q more)) (turned_turn (and_member p (and_member q more)) (turn_cells
            (at_member {q = q} {more = more} g)) (in_member s)) w)
            (turn_trail P K held down (and_member p (and_member q more)) (turn_cells (at_member {q = q} {more = more} g)) w)
            (turn_trail P K held down (and_member p (and_member q more)) (turn_cells (at_member {q = q} {more = more} g)) (in_member s))
        here (in_member w) z plain = wrapped s w (in_member s) (in_member w) member_apart (guarded_moves env g w) _ _ _ (l.each w z plain)
        here (in_later w) z plain = inl (asks_later (turned_guarded p (guarded_cells g) s).next refl w z plain)

    -- what stands behind a member
    pub later_led : {k n m : Mode} (g : GuardedAt p k) (t : TurnAt (and_member q more) n) (h : link m k n ≡ true) (s : TurnSpot (and_member q more))
        → TurnLed P K (held + 2) down (and_member q more) n env t s
        → TurnLed P K held down (and_member p (and_member q more)) m env (at_later g t h) (in_later s)
    later_led {k = k} {n = n} {m = m} g t h s l = record {
      each = here;
      up = λ e z.
          let a = l.up (link_acks m k n h ∙ e) z in
          let b = a.0 in
          let c = a.1 in
          (omega (arith, b), omega (arith, c));
      falls = λ e z. l.falls (link_acks m k n h ∙ e) z;
      less = let a = l.less in omega (arith, a);
    }
      where
        here : (w : TurnSpot (and_member p (and_member q more)))
            → one_rule_fires (turn_rule (and_member p (and_member q more)) env (asks m) (turned_turn (and_member p (and_member q more)) (turn_cells
            (at_later g t h)) (in_later s)) w) ≡ true
            → (turn_rises w ≡ true → turn_value (and_member p (and_member q more)) (turned_turn (and_member p (and_member q more)) (turn_cells
            (at_later g t h)) (in_later s)) w ≡ true)
            → Shorter (in_later s) w (turn_moves env (at_later g t h) w)
            (turn_trail P K held down (and_member p (and_member q more)) (turned_turn (and_member p (and_member q more)) (turn_cells (at_later g t h))
            (in_later s)) w)
            (turn_trail P K held down (and_member p (and_member q more)) (turn_cells (at_later g t h)) w) (turn_trail P K held down (and_member p
            (and_member q more)) (turn_cells (at_later g t h)) (in_later s))
        here (in_member w) z plain = inr (
          (λ e. cc e),
          sym (guarded_can_is env g w) ∙ (ap (λ b. one_rule_fires (guarded_rule p env b (guarded_cells g) w)) (link_asks m k n h) ∙ z),
          guarded_less P K (turn_first P (and_member q more) - 1) (turn_back P K down (and_member q more) (turned_turn (and_member q more)
              (turn_cells t) s)) (turn_back P K down (and_member q more) (turn_cells t)) p
              (guarded_cells g) w l.less,
        )
        here (in_later w) z plain = wrapped s w (in_later s) (in_later w) later_apart (turn_moves env t w) _ _ _ (l.each w
            (subst (λ (b : Bool). one_rule_fires (turn_rule (and_member q more) env b (turned_turn (and_member q more) (turn_cells t) s) w)
            ≡ true) (next_is g ∙ link_next m k n h) z) plain)

    -- the Q-element of a member falls
    pub behind_led : {k n m : Mode} → Clean P env → (g : GuardedAt p k) (t : TurnAt (and_member q more) n) (h : link m k n ≡ true) (s : GuardedSpot p)
        → TurnFits t env
        → guarded_moves env g s ≡ true → TurnLed P K held down (and_member p (and_member q more)) m env (at_later g t h) (in_member s)
    behind_led {n = answered} {m = returning} clean (g_back true) t h latch f e = record {
      each = here;
      up = λ e z. absurd (cc e);
      falls = λ e z. absurd (not_both z (turn_answer_is t));
      less = omega arith;
    }
      where
        here : (w : TurnSpot (and_member p (and_member q more)))
            → one_rule_fires (turn_rule (and_member p (and_member q more)) env false (turned_turn (and_member p (and_member q more)) (turn_cells
            (at_later {m = returning} (g_back {p = p} true) t h)) (in_member latch)) w) ≡ true
            → (turn_rises w ≡ true → turn_value (and_member p (and_member q more)) (turned_turn (and_member p (and_member q more)) (turn_cells
            (at_later {m = returning} (g_back {p = p} true) t h)) (in_member latch)) w ≡ true)
            → Shorter (in_member latch) w (turn_moves env (at_later {m = returning} (g_back {p = p} true) t h) w)
            (turn_trail P K held down (and_member p (and_member q more)) (turned_turn (and_member p (and_member q more)) (turn_cells
            (at_later {m = returning} (g_back {p = p} true) t h)) (in_member latch)) w)
            (turn_trail P K held down (and_member p (and_member q more)) (turn_cells (at_later {m = returning} (g_back {p = p} true) t h)) w)
            (turn_trail P K held down (and_member p (and_member q more)) (turn_cells (at_later {m = returning} (g_back {p = p} true) t h)) (in_member latch))
        here (in_member child) z plain = absurd (cc z)
        here (in_member latch) z plain = absurd (not_both (low_answer p) z)
        here (in_member next) z plain = inl (omega arith)
        here (in_member (inner w)) z plain = absurd (not_both (low_quiet p env w) z)
        here (in_later w) z plain = absurd (not_both (turn_can_is env t w ∙ turn_answered_moves P env clean t f w) z)
    behind_led {n = answered} {m = returning} clean (g_back false) t h next f e = record {
      each = here;
      up = λ e z. absurd (cc e);
      falls = λ e z. absurd (not_both z (turn_answer_is t));
      less = omega arith;
    }
      where
        here : (w : TurnSpot (and_member p (and_member q more)))
            → one_rule_fires (turn_rule (and_member p (and_member q more)) env false (turned_turn (and_member p (and_member q more)) (turn_cells
            (at_later {m = returning} (g_back {p = p} false) t h)) (in_member next)) w) ≡ true
            → (turn_rises w ≡ true → turn_value (and_member p (and_member q more)) (turned_turn (and_member p (and_member q more)) (turn_cells
            (at_later {m = returning} (g_back {p = p} false) t h)) (in_member next)) w ≡ true)
            → Shorter (in_member next) w (turn_moves env (at_later {m = returning} (g_back {p = p} false) t h) w)
            (turn_trail P K held down (and_member p (and_member q more)) (turned_turn (and_member p (and_member q more)) (turn_cells
            (at_later {m = returning} (g_back {p = p} false) t h)) (in_member next)) w)
            (turn_trail P K held down (and_member p (and_member q more)) (turn_cells (at_later {m = returning} (g_back {p = p} false) t h)) w)
            (turn_trail P K held down (and_member p (and_member q more)) (turn_cells (at_later {m = returning} (g_back {p = p} false) t h)) (in_member next))
        here (in_member child) z plain = absurd (cc z)
        here (in_member latch) z plain = absurd (not_both (low_answer p) z)
        here (in_member next) z plain = absurd (cc z)
        here (in_member (inner w)) z plain = absurd (not_both (low_quiet p env w) z)
        here (in_later w) z plain = inl (let a = turn_released P K (held + 2) down env clean t f w z in omega (arith, a))
    behind_led clean (g_back true) t h child f e = absurd (cc e)
    behind_led clean (g_back true) t h next f e = absurd (cc e)
    behind_led clean (g_back true) t h (inner x) f e = absurd (cc e)
    behind_led clean (g_back false) t h child f e = absurd (cc e)
    behind_led clean (g_back false) t h latch f e = absurd (cc e)
    behind_led clean (g_back false) t h (inner x) f e = absurd (cc e)
    behind_led {n = n} {m = m} clean (g_back u) t h s f e = absurd (cc ((link_back m n h).0, (link_back m n h).1))
    behind_led {n = n} {m = m} clean (g_in u a i) t h s f e = absurd (no_link m n h)
    behind_led clean _ t h s f e = absurd (cc e)

  -- the last member as a sequence, and a sequence as a statement
  pub last_led : {p : Process} {m : Mode} (a : At p m) (s : Spot p) → Led P K held down p m env a s
      → TurnLed P K held down (and_member p no_members) m env (at_last a) (in_last s)
  last_led {p = p} {m = m} a s l = record { each = here; up = l.up; falls = l.falls; less = l.less }
    where
      here : (w : TurnSpot (and_member p no_members))
          → one_rule_fires (turn_rule (and_member p no_members) env (asks m) (turned_turn (and_member p no_members) (turn_cells (at_last a))
          (in_last s)) w) ≡ true
          → (turn_rises w ≡ true → turn_value (and_member p no_members) (turned_turn (and_member p no_members) (turn_cells (at_last a)) (in_last s)) w ≡ true)
          → Shorter (in_last s) w (turn_moves env (at_last a) w)
          (turn_trail P K held down (and_member p no_members) (turned_turn (and_member p no_members) (turn_cells (at_last a)) (in_last s)) w)
          (turn_trail P K held down (and_member p no_members) (turn_cells (at_last a)) w)
          (turn_trail P K held down (and_member p no_members) (turn_cells (at_last a)) (in_last s))
      here (in_last w) z plain = wrapped s w (in_last s) (in_last w) last_apart (moves env a w) _ _ _ (l.each w z plain)

  pub turn_led : {ms : Processes} {m : Mode} (t : TurnAt ms m) (s : TurnSpot ms) → TurnLed P K held down ms m env t s
      → Led P K held down (in_turn ms) m env (at_turn t) (in_members s)
  turn_led {ms = ms} {m = m} t s l = record { each = here; up = l.up; falls = l.falls; less = l.less }
    where
      here : (w : Spot (in_turn ms)) → one_rule_fires (rule (in_turn ms) env (asks m) (flipped (in_turn ms) (cells (at_turn t)) (in_members s)) w) ≡ true
          → Plain (in_turn ms) (flipped (in_turn ms) (cells (at_turn t)) (in_members s)) w
          → Shorter (in_members s) w (moves env (at_turn t) w) (trail P K held down (in_turn ms) (flipped (in_turn ms) (cells (at_turn t)) (in_members s)) w)
          (trail P K held down (in_turn ms) (cells (at_turn t)) w) (trail P K held down (in_turn ms) (cells (at_turn t)) (in_members s))
      here (in_members w) z plain = wrapped s w (in_members s) (in_members w) members_apart (turn_moves env t w) _ _ _ (l.each w z plain)
