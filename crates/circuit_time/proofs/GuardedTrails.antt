-- Own moves of Q-elements round a statement.
--
-- P: the program; K: how many moves follow the falls of lines; plus, minus: how many follow the rise and the fall of the Q-element's next
-- request; a: where its statement is; u: its latch; h: that the statement may be so far under it; s, q: spots; z: that a rule fires.
use Rattle.std.proofs.Common.{◌≡◌, ◌≢◌, ℕ, ◌+◌, ◌-◌, ◌<◌, ◌≤◌, Bool, true, false, refl, sym, ap, ◌∙◌, subst, inl, inr, arith}
use Rattle.std.specs.Prelude.{not, ◌&&◌, if◌then◌else◌}
use Rattle.width_check.specs.Processes.{Process, TypedProgram}
use Rattle.function_blocks.specs.Rails.{one_rule_fires}
use Rattle.circuit_places.specs.Lines.{Seen}
use Rattle.circuit_places.specs.Circuit.{Cells, low, GuardedSpot, child, latch, next, inner, Spot, answer, guarded_rule, rule, turned_guarded, flipped}
use Rattle.circuit_places.proofs.Flow.{Clean, Backed, Quiet, quiet_of, not_both}
use Rattle.circuit_places.proofs.Meets.{Meets}
use Rattle.circuit_places.proofs.Begin.{idle_is, answered_moves}
use Rattle.circuit_places.proofs.Places.{Mode, idle, running, answered, returning, asks, acks, inner_may, GuardedAt, g_in, g_back, At, guarded_cells, cells, shown, guarded_shown, Fits, GuardedFits, guarded_moves, moves, answer_is, low_answer, low_quiet, low_guarded_quiet, can_is}
use Rattle.circuit_places.proofs.StillSteps.{guarded_rises, guarded_value}
use Rattle.round_time.specs.Longest.{first}
use Rattle.circuit_time.proofs.Trails.{Clearing, back, guarded_trail, trail}
use Rattle.circuit_time.proofs.Requests.{Plain, asked}
use Rattle.circuit_time.proofs.Releases.{released}
use Rattle.circuit_time.proofs.Spots.{inner_apart}
use Rattle.circuit_time.proofs.OwnTrails.{Shorter, Led, GuardedLed}

module _ (P : TypedProgram) (K : Clearing) (plus minus : ℕ) {p : Process} (env : Seen) where
  abbrev Each : {m : Mode} (g : GuardedAt p m) (s q : GuardedSpot p) → Type 0
  Each {m = m} g s q = one_rule_fires (guarded_rule p env (asks m) (turned_guarded p (guarded_cells g) s) q) ≡ true
      → (guarded_rises q ≡ true → guarded_value p (turned_guarded p (guarded_cells g) s) q ≡ true)
      → Shorter s q (guarded_moves env g q) (guarded_trail P K plus minus p (turned_guarded p (guarded_cells g) s) q)
      (guarded_trail P K plus minus p (guarded_cells g) q) (guarded_trail P K plus minus p (guarded_cells g) s)

  -- the child request rises
  child_rises : Clean P env → Meets P p → (a : At p idle) (h : inner_may false idle ≡ true) → Backed p (shown a) env
      → GuardedLed P K plus minus p running env (g_in false a h) child
  child_rises clean meets a h behind = record { each = here; up = λ e z. absurd (cc z); falls = λ e z. absurd (cc e) }
    where
      quiet : Quiet p env
      quiet = quiet_of env (shown a) (idle_is a).1 behind

      inside : (x : Cells p) → x ≡ low p → (q : Spot p) → one_rule_fires (rule p env true x q) ≡ true → Plain p x q
          → trail P K 2 (1 + plus) p x q < first P p - 1
      inside x e q z plain = subst (λ (y : Cells p). one_rule_fires (rule p env true y q) ≡ true → Plain p y q → trail P K 2 (1 + plus) p y q < first P p - 1)
          (sym e) (λ z plain. let w = asked P K 2 (1 + plus) p env meets quiet q z plain in omega (arith, w)) z plain

      here : (q : GuardedSpot p) → Each (g_in false a h) child q
      here child z plain = absurd (cc z)
      here latch z plain = absurd (not_both (answer_is a) z)
      here next z plain = absurd (cc z)
      here (inner q) z plain = inl (inside (cells a) (idle_is a).0 q z plain)

  -- and falls
  child_falls : Clean P env → (a : At p answered) (h : inner_may true answered ≡ true) → Fits a env
      → GuardedLed P K plus minus p running env (g_in true a h) child
  child_falls clean a h f = record { each = here; up = λ e z. absurd (cc z); falls = λ e z. absurd (cc e) }
    where
      here : (q : GuardedSpot p) → Each (g_in true a h) child q
      here child z plain = absurd (cc z)
      here latch z plain = absurd (cc z)
      here next z plain = absurd (not_both (ap not (answer_is a)) z)
      here (inner q) z plain = inl (let w = released P K 2 (1 + plus) env clean a f q z in omega (arith, w))

  latch_rises : Clean P env → (a : At p answered) (h : inner_may false answered ≡ true) → Fits a env
      → GuardedLed P K plus minus p running env (g_in false a h) latch
  latch_rises clean a h f = record { each = here; up = λ e z. absurd (cc z); falls = λ e z. absurd (cc e) }
    where
      here : (q : GuardedSpot p) → Each (g_in false a h) latch q
      here child z plain = inl (omega arith)
      here latch z plain = absurd (cc z)
      here next z plain = absurd (not_both (ap not (answer_is a)) z)
      here (inner q) z plain = absurd (not_both (can_is env a q ∙ answered_moves P env clean a f q) z)

  next_rises : (a : At p idle) (h : inner_may true idle ≡ true) → GuardedLed P K plus minus p running env (g_in true a h) next
  next_rises a h = record { each = here; up = λ e z. omega arith; falls = λ e z. absurd (cc e) }
    where
      here : (q : GuardedSpot p) → Each (g_in true a h) next q
      here child z plain = absurd (cc z)
      here latch z plain = absurd (cc z)
      here next z plain = absurd (cc z)
      here (inner q) z plain =
          absurd (not_both (subst (λ (x : Cells p). one_rule_fires (rule p env false x q) ≡ false) (sym (idle_is a).0) (low_quiet p env q)) z)

  latch_falls : GuardedLed P K plus minus p returning env (g_back true) latch
  latch_falls = record { each = here; up = λ e z. absurd (cc e); falls = λ e z. absurd (cc z) }
    where
      here : (q : GuardedSpot p) → Each (g_back true) latch q
      here child z plain = absurd (cc z)
      here latch z plain = absurd (not_both (low_answer p) z)
      here next z plain = inl (omega arith)
      here (inner q) z plain = absurd (not_both (low_quiet p env q) z)

  next_falls : GuardedLed P K plus minus p returning env (g_back false) next
  next_falls = record { each = here; up = λ e z. absurd (cc e); falls = λ e z. omega arith }
    where
      here : (q : GuardedSpot p) → Each (g_back false) next q
      here q z plain = absurd (not_both (low_guarded_quiet p env q) z)

  -- the statement itself moves
  pub inner_moves : {m : Mode} (u : Bool) (a : At p m) (h : inner_may u m ≡ true) (s : Spot p) → Led P K 2 (1 + plus) p m env a s
      → GuardedLed P K plus minus p running env (g_in u a h) (inner s)
  inner_moves {m = m} u a h s l = record { each = here; up = λ e z. absurd (cc z); falls = λ e z. absurd (cc e) }
    where
      of_child : (r : Bool) → (if r then back P K (1 + plus) p (flipped p (cells a) s) else first P p - 1)
          ≤ (if r then back P K (1 + plus) p (cells a) else first P p - 1)
      of_child true = l.less
      of_child false = omega arith

      latched : (u : Bool) → (if u then not true else answer p (flipped p (cells a) s)) ≡ true → (b : Bool) → acks m ≡ b
          → Shorter (inner s) (latch {p = p}) (if u then false else acks m) (if u then 1 + minus else 1 + back P K (1 + plus) p (flipped p (cells a) s))
          (if u then 1 + minus else 1 + back P K (1 + plus) p (cells a)) (trail P K 2 (1 + plus) p (cells a) s)
      latched true z b e = absurd (cc z)
      latched false z true e = let w = l.less in inr ((λ k. cc k), e, omega (arith, w))
      latched false z false e = let w = (l.up e z).0 in inl (omega (arith, w))

      nexts : (u : Bool) → (u && not (answer p (flipped p (cells a) s))) ≡ true → (b : Bool) → acks m ≡ b
          → Shorter (inner s) (next {p = p}) (u && not (acks m)) plus plus (trail P K 2 (1 + plus) p (cells a) s)
      nexts false z b e = absurd (cc z)
      nexts true z false e = inr ((λ k. cc k), ap not e, omega arith)
      nexts true z true e = low_now (answer p (flipped p (cells a) s)) refl z
        where
          low_now : (d : Bool) → answer p (flipped p (cells a) s) ≡ d → not d ≡ true
              → Shorter (inner s) (next {p = p}) (true && not (acks m)) plus plus (trail P K 2 (1 + plus) p (cells a) s)
          low_now true k z = absurd (cc z)
          low_now false k z = let w = l.falls e k in inl (omega (arith, w))

      here : (q : GuardedSpot p) → Each (g_in u a h) (inner s) q
      here child z plain = inr ((λ k. cc k), z, of_child (asks m))
      here latch z plain = latched u z (acks m) refl
      here next z plain = nexts u z (acks m) refl
      here (inner q) z plain = by (l.each q z plain)
        where
          by : Shorter s q (moves env a q) (trail P K 2 (1 + plus) p (flipped p (cells a) s) q) (trail P K 2 (1 + plus) p (cells a) q)
              (trail P K 2 (1 + plus) p (cells a) s)
              → Shorter (inner s) (inner q) (moves env a q) (trail P K 2 (1 + plus) p (flipped p (cells a) s) q) (trail P K 2 (1 + plus) p (cells a) q)
              (trail P K 2 (1 + plus) p (cells a) s)
          by (inl less) = inl less
          by (inr (ne, could, no_more)) = inr (inner_apart ne, could, no_more)

  -- of its own nodes
  pub own_led : {m : Mode} (g : GuardedAt p m) (s : GuardedSpot p) → Clean P env → Meets P p → ((x : Spot p) → s ≢ inner x) → GuardedFits g env
      → Backed p (guarded_shown g) env → guarded_moves env g s ≡ true → GuardedLed P K plus minus p m env g s
  own_led g (inner x) clean meets out f behind e = absurd (out x refl)
  own_led (g_in {m = idle} false a h) child clean meets out f behind e = child_rises clean meets a h record { send = behind.send; receive = behind.receive }
  own_led (g_in {m = answered} true a h) child clean meets out f behind e = child_falls clean a h f
  own_led (g_in {m = answered} false a h) latch clean meets out f behind e = latch_rises clean a h f
  own_led (g_in {m = idle} true a h) next clean meets out f behind e = next_rises a h
  own_led (g_back true) latch clean meets out f behind e = latch_falls
  own_led (g_back false) next clean meets out f behind e = next_falls
  own_led (g_in {m = m} true a h) s clean meets out f behind e = absurd (cc (h, e))
  own_led (g_in {m = m} false a h) s clean meets out f behind e = absurd (cc (h, e))
  own_led _ s clean meets out f behind e = absurd (cc e)
