-- Own moves of a guarded repetition that has answered and falls back: the turn's request, the latch of the end, that a latch is up, the answer.
--
-- P: the program; K: how many moves follow the falls of lines; c: where it is; s, q: spots; z: that a rule fires.
use Rattle.std.proofs.Common.{◌≡◌, ℕ, true, false, refl, sym, ◌∙◌, inl, inr, arith}
use Rattle.width_check.specs.Processes.{choosing, Choices, choice_count, TypedProgram}
use Rattle.function_blocks.specs.Rails.{one_rule_fires}
use Rattle.circuit_places.specs.Lines.{Seen}
use Rattle.circuit_places.specs.Heads.{low_bits, bit_of}
use Rattle.circuit_places.specs.Cores.{of_joined, of_ask, of_any, of_latch, of_start, of_answer, of_turn, of_leave}
use Rattle.circuit_places.specs.Circuit.{Spot, of_core, of_guard, of_choice, of_round, rule, flipped}
use Rattle.circuit_places.proofs.HeadFacts.{bit_none, some_none}
use Rattle.circuit_places.proofs.Flow.{not_both}
use Rattle.circuit_places.proofs.CoreControl.{Closing, told_all, lets_turn, lets_leave, lets_any, lets_answer}
use Rattle.circuit_places.proofs.Places.{Mode, returning, At, at_closing, cells, moves, can_is}
use Rattle.circuit_time.proofs.Trails.{Clearing, trail}
use Rattle.circuit_time.proofs.Requests.{Plain}
use Rattle.circuit_time.proofs.OwnTrails.{Shorter, Led}
use Rattle.circuit_pace.proofs.Never.{never, not_low}
use Rattle.circuit_pace.proofs.ControlTrails.{start_still}

module _ (P : TypedProgram) (K : Clearing) (held down : ℕ) (env : Seen) {choices : Choices} where
  abbrev closes : Closing returning → At (choosing true choices) returning
  closes c = at_closing c

  abbrev Each : (c : Closing returning) (s q : Spot (choosing true choices)) → Type 0
  Each c s q = one_rule_fires (rule (choosing true choices) env false (flipped (choosing true choices) (cells (closes c)) s) q) ≡ true
      → Plain (choosing true choices) (flipped (choosing true choices) (cells (closes c)) s) q
      → Shorter s q (moves env (closes c) q) (trail P K held down (choosing true choices) (flipped (choosing true choices) (cells (closes c)) s) q)
      (trail P K held down (choosing true choices) (cells (closes c)) q) (trail P K held down (choosing true choices) (cells (closes c)) s)

  turn_falls : Led P K held down (choosing true choices) returning env (closes lets_turn) (of_round of_turn)
  turn_falls = record { each = here; up = λ b z. not_low b; falls = λ b z. not_low z; less = omega arith }
    where
      here : (q : Spot (choosing true choices)) → Each lets_turn (of_round of_turn) q
      here (of_core of_joined) z plain = inr ((λ t. cc t), sym (can_is env (closes lets_turn) (of_core of_joined)) ∙ z, omega arith)
      here (of_core of_ask) z plain = never z
      here (of_core of_any) z plain = inr ((λ t. cc t), sym (can_is env (closes lets_turn) (of_core of_any)) ∙ z, omega arith)
      here (of_core (of_latch i)) z plain = absurd (not_both (bit_none i) (plain refl))
      here (of_core (of_start i)) z plain = absurd (start_still (bit_of i (low_bits (choice_count choices))) _ z)
      here (of_guard q) z plain = inr ((λ t. cc t), sym (can_is env (closes lets_turn) (of_guard q)) ∙ z, omega arith)
      here (of_choice q) z plain = inr ((λ t. cc t), sym (can_is env (closes lets_turn) (of_choice q)) ∙ z, omega arith)
      here (of_round of_answer) z plain = never z
      here (of_round of_turn) z plain = never z
      here (of_round of_leave) z plain = inl (omega arith)

  leave_falls : Led P K held down (choosing true choices) returning env (closes lets_leave) (of_round of_leave)
  leave_falls = record { each = here; up = λ b z. not_low b; falls = λ b z. not_low z; less = omega arith }
    where
      here : (q : Spot (choosing true choices)) → Each lets_leave (of_round of_leave) q
      here (of_core of_joined) z plain = absurd (not_both (can_is env (closes lets_leave) (of_core of_joined)) z)
      here (of_core of_ask) z plain = never z
      here (of_core of_any) z plain = inl (omega arith)
      here (of_core (of_latch i)) z plain = absurd (not_both (bit_none i) (plain refl))
      here (of_core (of_start i)) z plain = absurd (start_still (bit_of i (low_bits (choice_count choices))) _ z)
      here (of_guard q) z plain = inr ((λ t. cc t), sym (can_is env (closes lets_leave) (of_guard q)) ∙ z, omega arith)
      here (of_choice q) z plain = inr ((λ t. cc t), sym (can_is env (closes lets_leave) (of_choice q)) ∙ z, omega arith)
      here (of_round of_answer) z plain = never z
      here (of_round of_turn) z plain = never z
      here (of_round of_leave) z plain = never (plain refl)

  any_falls : Led P K held down (choosing true choices) returning env (closes lets_any) (of_core of_any)
  any_falls = record { each = here; up = λ b z. not_low b; falls = λ b z. not_low z; less = omega arith }
    where
      here : (q : Spot (choosing true choices)) → Each lets_any (of_core of_any) q
      here (of_core of_joined) z plain = absurd (not_both (can_is env (closes lets_any) (of_core of_joined)) z)
      here (of_core of_ask) z plain = never z
      here (of_core of_any) z plain = absurd (not_both (some_none (choice_count choices)) z)
      here (of_core (of_latch i)) z plain = absurd (not_both (bit_none i) (plain refl))
      here (of_core (of_start i)) z plain = absurd (start_still (bit_of i (low_bits (choice_count choices))) _ z)
      here (of_guard q) z plain = inr ((λ t. cc t), sym (can_is env (closes lets_any) (of_guard q)) ∙ z, omega arith)
      here (of_choice q) z plain = inr ((λ t. cc t), sym (can_is env (closes lets_any) (of_choice q)) ∙ z, omega arith)
      here (of_round of_answer) z plain = inl (omega arith)
      here (of_round of_turn) z plain = never z
      here (of_round of_leave) z plain = never (plain refl)

  answer_falls : Led P K held down (choosing true choices) returning env (closes lets_answer) (of_round of_answer)
  answer_falls = record { each = here; up = λ b z. not_low b; falls = λ b z. omega arith; less = omega arith }
    where
      here : (q : Spot (choosing true choices)) → Each lets_answer (of_round of_answer) q
      here (of_core of_joined) z plain = inr ((λ t. cc t), sym (can_is env (closes lets_answer) (of_core of_joined)) ∙ z, omega arith)
      here (of_core of_ask) z plain = never z
      here (of_core of_any) z plain = inr ((λ t. cc t), sym (can_is env (closes lets_answer) (of_core of_any)) ∙ z, omega arith)
      here (of_core (of_latch i)) z plain = absurd (not_both (bit_none i) (plain refl))
      here (of_core (of_start i)) z plain = absurd (start_still (bit_of i (low_bits (choice_count choices))) _ z)
      here (of_guard q) z plain = inr ((λ t. cc t), sym (can_is env (closes lets_answer) (of_guard q)) ∙ z, omega arith)
      here (of_choice q) z plain = inr ((λ t. cc t), sym (can_is env (closes lets_answer) (of_choice q)) ∙ z, omega arith)
      here (of_round of_answer) z plain = never z
      here (of_round of_turn) z plain = never z
      here (of_round of_leave) z plain = never (plain refl)

  -- all of them
  pub closing_led : {m : Mode} (c : Closing m) (s : Spot (choosing true choices)) → moves env (at_closing {choices = choices} c) s ≡ true
      → Led P K held down (choosing true choices) m env (at_closing c) s
  closing_led told_all (of_core of_any) e = never e
  closing_led lets_turn (of_core of_any) e = never e
  closing_led lets_leave (of_core of_any) e = never e
  closing_led lets_any (of_core of_any) e = any_falls
  closing_led lets_answer (of_core of_any) e = never e
  closing_led told_all (of_round of_turn) e = never e
  closing_led lets_turn (of_round of_turn) e = turn_falls
  closing_led lets_leave (of_round of_turn) e = never e
  closing_led lets_any (of_round of_turn) e = never e
  closing_led lets_answer (of_round of_turn) e = never e
  closing_led told_all (of_round of_leave) e = never e
  closing_led lets_turn (of_round of_leave) e = never e
  closing_led lets_leave (of_round of_leave) e = leave_falls
  closing_led lets_any (of_round of_leave) e = never e
  closing_led lets_answer (of_round of_leave) e = never e
  closing_led told_all (of_round of_answer) e = never e
  closing_led lets_turn (of_round of_answer) e = never e
  closing_led lets_leave (of_round of_answer) e = never e
  closing_led lets_any (of_round of_answer) e = never e
  closing_led lets_answer (of_round of_answer) e = answer_falls
  closing_led c (of_core of_joined) e = never e
  closing_led c (of_core of_ask) e = never e
  closing_led c (of_core (of_latch i)) e = never e
  closing_led c (of_core (of_start i)) e = never e
  closing_led c (of_guard s) e = never e
  closing_led c (of_choice s) e = never e
