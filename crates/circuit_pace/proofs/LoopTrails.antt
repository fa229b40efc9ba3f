-- Own moves of loops, and of skips.
--
-- P: the program; K: how many moves follow the falls of lines; a: where the body is; s, q: spots; z: that a rule fires; l: what is said of a
-- move of the body.
use Rattle.std.proofs.Common.{◌≡◌, ℕ, Bool, true, false, refl, ap, inl, inr, arith}
use Rattle.std.specs.Prelude.{not, ◌&&◌, if◌then◌else◌}
use Rattle.width_check.specs.Processes.{Process, skipping, repeating, TypedProgram}
use Rattle.function_blocks.specs.Rails.{one_rule_fires}
use Rattle.circuit_places.specs.Lines.{Seen}
use Rattle.circuit_places.specs.Circuit.{Spot, of_skip, of_loop, ask, in_body, answer, rule, flipped}
use Rattle.circuit_places.proofs.Flow.{Clean, not_both}
use Rattle.circuit_places.proofs.Places.{Mode, idle, running, answered, returning, is_idle, asks, acks, At, at_skip, at_body, cells, Fits, moves, answer_is}
use Rattle.circuit_time.proofs.Trails.{Clearing, back, trail}
use Rattle.circuit_time.proofs.Requests.{Plain}
use Rattle.circuit_time.proofs.Releases.{released}
use Rattle.circuit_time.proofs.Spots.{body_apart}
use Rattle.circuit_time.proofs.OwnTrails.{Shorter, Led}
use Rattle.circuit_time.proofs.TurnTrails.{wrapped}
use Rattle.circuit_pace.proofs.Never.{never, not_low}

module _ (P : TypedProgram) (K : Clearing) (held down : ℕ) (env : Seen) where
  -- a skip's answer falls
  pub skip_led : (m : Mode) (h : is_idle m ≡ false) (s : Spot skipping) → moves env (at_skip m h) s ≡ true → Plain skipping (cells (at_skip m h)) s
      → Led P K held down skipping m env (at_skip m h) s
  skip_led idle h of_skip e plain = not_low h
  skip_led running h of_skip e plain = never (plain refl)
  skip_led answered h of_skip e plain = never e
  skip_led returning h of_skip e plain = record { each = here; up = λ e z. not_low e; falls = λ e z. omega arith; less = omega arith }
    where
      here : (q : Spot skipping) → one_rule_fires (rule skipping env false (flipped skipping true of_skip) q) ≡ true
          → Plain skipping (flipped skipping true of_skip) q → Shorter of_skip q (moves env (at_skip returning h) q)
          (trail P K held down skipping (flipped skipping true of_skip) q) (trail P K held down skipping true q) (trail P K held down skipping true of_skip)
      here of_skip z plain = never z

  -- the request of a loop's body falls
  pub ask_led : {p : Process} {m : Mode} → Clean P env → (a : At p m) → Fits a env → moves env (at_body a) ask ≡ true
      → Plain (repeating p) (cells (at_body a)) ask
      → Led P K held down (repeating p) running env (at_body a) ask
  ask_led {m = idle} clean a f e plain = never (plain refl)
  ask_led {m = running} clean a f e plain = never e
  ask_led {m = returning} clean a f e plain = never (plain refl)
  ask_led {p = p} {m = answered} clean a f e plain =
      record { each = here; up = λ e z. never z; falls = λ e z. never e; less = omega arith }
    where
      here : (q : Spot (repeating p)) → one_rule_fires (rule (repeating p) env true (flipped (repeating p) (cells (at_body a)) ask) q) ≡ true
          → Plain (repeating p) (flipped (repeating p) (cells (at_body a)) ask) q
          → Shorter ask q (moves env (at_body a) q) (trail P K held down (repeating p) (flipped (repeating p) (cells (at_body a)) ask) q)
          (trail P K held down (repeating p) (cells (at_body a)) q) (trail P K held down (repeating p) (cells (at_body a)) ask)
      here of_loop z plain = never z
      here ask z plain = absurd (not_both (ap not (answer_is a)) z)
      here (in_body q) z plain = inl (let w = released P K 1 0 env clean a f q z in omega (arith, w))

  -- the body moves
  pub body_led : {p : Process} {m : Mode} (a : At p m) (s : Spot p) → Led P K 1 0 p m env a s
      → Led P K held down (repeating p) running env (at_body a) (in_body s)
  body_led {p = p} {m = m} a s l = record { each = here; up = λ e z. never z; falls = λ e z. never e; less = omega arith }
    where
      called : (r : Bool) → asks m ≡ r → (if r then answer p (flipped p (cells a) s) else (true && not (answer p (flipped p (cells a) s)))) ≡ true
          → (r ≡ true) → (b : Bool) → acks m ≡ b
          → Shorter (in_body s) (ask {p = p}) (if r then acks m else not (acks m)) (if r then back P K 0 p (flipped p (cells a) s) else 0)
          (if r then back P K 0 p (cells a) else 0) (trail P K 1 0 p (cells a) s)
      called false k z plain b e = never plain
      called true k z plain true e = inr ((λ w. cc w), e, l.less)
      called true k z plain false e = let w = (l.up e z).0 in inl (omega (arith, w))

      here : (q : Spot (repeating p)) → one_rule_fires (rule (repeating p) env true (flipped (repeating p) (cells (at_body a)) (in_body s)) q) ≡ true
          → Plain (repeating p) (flipped (repeating p) (cells (at_body a)) (in_body s)) q
          → Shorter (in_body s) q (moves env (at_body a) q) (trail P K held down (repeating p) (flipped (repeating p) (cells (at_body a)) (in_body s)) q)
          (trail P K held down (repeating p) (cells (at_body a)) q) (trail P K held down (repeating p) (cells (at_body a)) (in_body s))
      here of_loop z plain = never z
      here ask z plain = called (asks m) refl z (plain refl) (acks m) refl
      here (in_body q) z plain = wrapped s q (in_body s) (in_body q) body_apart (moves env a q) _ _ _ (l.each q z plain)
