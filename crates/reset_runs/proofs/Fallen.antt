-- When reset is low: states, moves, histories and phases are those of the net without it.
use Rattle.std.proofs.Common.{◌≡◌, ◌≢◌, ℕ, suc, ◌/◌, ◌<◌, ◌≤◌, Bool, true, false, None, List, [], ◌∷◌, ◌++◌, length, get_or, set, refl, sym, ap, ◌∙◌, subst, inl, inr, arith}
use Rattle.std.specs.Prelude.{◌⊎◌, not, ◌||◌, if◌then◌else◌, Option, Some, All, position, slice_get}
use Rattle.std.proofs.lemmas.Bool.{and_left, or_from, cases_lt, ne_eqb, both_ways, cond-false}
use Rattle.std.proofs.lemmas.List.{get_or_past, set-append_left, length-set}
use Rattle.prs_core.specs.declared.wires.Wires.{Wires}
use Rattle.prs_core.specs.Nets.{NetValue, IsNet, IsChannel, up_of, down_of}
use Rattle.prs_core.specs.Moves.{high, fired, guard_holds, rule_enabled, both_ways as pulled}
use Rattle.reset_net.specs.Resets.{reset_of}
use Rattle.env_script.specs.Scripts.{OfferValue, gives, takes, nothing, offer_at}
use Rattle.env_script.specs.Environment.{env_enabled, in_reset, is_odd, raises_bit, raises_value, raises_next, lowers, offer_moves, channels_move}
use Rattle.env_script.specs.Phases.{phases_keep, phase_fault}
use Rattle.env_script.specs.Runs.{RunState, IsRun, IsSafeRun, IsSafeMove, IsAtRest, IsApart, completed, move_enabled, moved, with_values, histories_after, after}
use Rattle.reset_runs.specs.Power.{with_low}
use Rattle.reset_runs.proofs.Driving.{with_default, same_state, rule_low, both_low}

-- No node past the nodes of a net moves.

no_rule : (net : NetValue) → IsNet net → (v : ℕ → Bool) (k : ℕ) → length net.first ≤ k → rule_enabled net v k ≡ false
no_rule net is v k past = by_value (v k)
  where
    by_value : (b : Bool) → (if b then guard_holds v (down_of net k) else guard_holds v (up_of net k)) ≡ false
    by_value true = ap (guard_holds v) (get_or_past net.down k [] (omega (arith, is.downs)))
    by_value false = ap (guard_holds v) (get_or_past net.up k [] (omega (arith, is.ups)))

not_raised : (v : ℕ → Bool) (value r : ℕ) (rails : List ℕ) → All (λ rail. r ≢ rail) rails → raises_value v value rails r ≡ false
not_raised v value r [] apart = refl
not_raised v value r (t ∷ []) apart = refl
not_raised v value r (t ∷ f ∷ rest) apart =
    or_from _ _ (by_bit (is_odd value)) (not_raised v (value / 2) r rest (λ k d within. apart (suc (suc k)) d (omega arith)))
  where
    by_bit : (bit : Bool) → raises_bit v bit t f r ≡ false
    by_bit true = and_left _ _ (ne_eqb r t (apart 0 0 (omega arith)))
    by_bit false = and_left _ _ (ne_eqb r f (apart 1 0 (omega arith)))

not_next : (v : ℕ → Bool) (next : Option ℕ) (r : ℕ) (rails : List ℕ) → All (λ rail. r ≢ rail) rails → raises_next v next rails r ≡ false
not_next v None r rails apart = refl
not_next v (Some value) r rails apart = not_raised v value r rails apart

not_offered : (v : ℕ → Bool) (w : Wires) (offer : OfferValue) (done r : ℕ) → v r ≡ false → All (λ rail. r ≢ rail) w.rails → r ≢ w.ack →
    offer_moves v w offer done r ≡ false
not_offered v w (gives values) done r low apart no_ack = by_ack (slice_get values done) (v w.ack)
  where
    by_ack : (next : Option ℕ) (b : Bool) → (if b then lowers v w.rails r else raises_next v next w.rails r) ≡ false
    by_ack next true = and_left _ _ low
    by_ack next false = not_next v next r w.rails apart
not_offered v w (takes count) done r low apart no_ack = and_left _ _ (ne_eqb r w.ack no_ack)
not_offered v w nothing done r low apart no_ack = refl

lt_ne : (a b : ℕ) → a < b → b ≡ a → ⊥
lt_ne a b less same = absurd (omega arith)

no_channel : (net : NetValue) (v : ℕ → Bool) (script : ℕ → OfferValue) (done : ℕ → ℕ) (r : ℕ) → v r ≡ false → length net.first ≤ r → (c : ℕ) (ws : List Wires) →
    All (IsChannel net) ws → channels_move v script done c ws r ≡ false
no_channel net v script done r low past c [] are = refl
no_channel net v script done r low past c (w ∷ ws) are =
    let is : IsChannel net w = are 0 w (omega arith) in
    or_from _ _
    (not_offered v w (script c) (done c) r low (λ k d within. lt_ne (get_or w.rails k d) r (omega (arith, is.rails_within k d within)))
    (lt_ne w.ack r (omega (arith, is.ack_within))))
    (no_channel net v script done r low past (suc c) ws (λ k d within. are (suc k) d (omega arith)))

-- the values of the nodes are the same
high_same : (vs : List Bool) → ◌≡◌ {A = ℕ → Bool} (high (vs ++ false ∷ [])) (high vs)
high_same vs = λ i k. with_default vs false k i

pub count_after : (net : NetValue) (ns : List ℕ) (st : RunState) → length (after net st ns).values ≡ length st.values
count_after net [] st = refl
count_after net (n ∷ ns) st = count_after net ns (moved net st n) ∙ length-set st.values n (not (high st.values n))

module _ (net : NetValue) (is : IsNet net) (plain : net.reset ≡ None) (script : List OfferValue) where
  free : (v : ℕ → Bool) → in_reset net.reset v ≡ false
  free v = ap (λ (o : Option ℕ). in_reset o v) plain

  past_low : (st : RunState) → length st.values ≡ length net.first → high st.values (length net.first) ≡ false
  past_low st count = get_or_past st.values (length net.first) false (omega arith)

  env_same : (done : ℕ → ℕ) (v : ℕ → Bool) (k : ℕ) → v (length net.first) ≡ false → env_enabled (reset_of net) script done v k ≡ env_enabled net script done v k
  env_same done v k low = cond-false (v (length net.first)) _ _ low ∙ sym (cond-false (in_reset net.reset v) _ _ (free v))

  pub enabled_low : (st : RunState) → length st.values ≡ length net.first → (k : ℕ) →
      move_enabled (reset_of net) script (with_low st) k ≡ move_enabled net script st k
  enabled_low st count k =
      ap (λ (v : ℕ → Bool). rule_enabled (reset_of net) v k || env_enabled (reset_of net) script (completed st.histories) v k) (high_same st.values)
      ∙ ap (λ b. b || env_enabled (reset_of net) script (completed st.histories) (high st.values) k) (rule_low net is (high st.values) (past_low st count) k)
      ∙ ap (λ b. rule_enabled net (high st.values) k || b) (env_same (completed st.histories) (high st.values) k (past_low st count))

  none_past : (st : RunState) → length st.values ≡ length net.first → (k : ℕ) → length net.first ≤ k → move_enabled net script st k ≡ false
  none_past st count k past =
      or_from _ _ (no_rule net is (high st.values) k past)
      (cond-false (in_reset net.reset (high st.values)) _ _ (free (high st.values))
      ∙ or_from _ _ (and_left _ _ (ne_eqb k 0 (lt_ne 0 k (omega (arith, is.some)))))
      (no_channel net (high st.values) (offer_at script) (completed st.histories) k (get_or_past st.values k false (omega arith)) past 0 net.channels
      is.channels))

  -- only nodes of the net move
  within : (st : RunState) → length st.values ≡ length net.first → (k : ℕ) → move_enabled net script st k ≡ true → k < length net.first
  within st count k on = by_place (cases_lt k (length net.first))
    where
      by_place : (k < length net.first) ⊎ (length net.first ≤ k) → k < length net.first
      by_place (inl here) = here
      by_place (inr past) = absurd (both_ways _ (none_past st count k past) on)

  moved_low : (st : RunState) → length st.values ≡ length net.first → (k : ℕ) → k < length net.first →
      moved (reset_of net) (with_low st) k ≡ with_low (moved net st k)
  moved_low st count k here =
      same_state (fired (st.values ++ false ∷ []) k) (fired st.values k ++ false ∷ []) (histories_after (reset_of net) (with_low st) k)
      (histories_after net st k)
      (ap (λ b. set (st.values ++ false ∷ []) k (not b)) (with_default st.values false k)
      ∙ set-append_left st.values (false ∷ []) k (not (high st.values k)) (omega arith))
      (ap (λ (v : ℕ → Bool). if v (length net.first) then st.histories else with_values v k net.channels st.histories) (high_same st.values)
      ∙ cond-false (high st.values (length net.first)) _ _ (past_low st count)
      ∙ sym (cond-false (in_reset net.reset (high st.values)) _ _ (free (high st.values))))

  phase_low : (st : RunState) → length st.values ≡ length net.first → (k : ℕ) →
      phase_fault (reset_of net) (high (st.values ++ false ∷ [])) k ≡ phase_fault net (high st.values) k
  phase_low st count k =
      ap (λ (v : ℕ → Bool). if v (length net.first) then None else position (λ (w : Wires). not (phases_keep v w k)) net.channels) (high_same st.values)
      ∙ cond-false (high st.values (length net.first)) _ _ (past_low st count)
      ∙ sym (cond-false (in_reset net.reset (high st.values)) _ _ (free (high st.values)))

  apart_low : (st : RunState) → length st.values ≡ length net.first → IsApart net st → IsApart (reset_of net) (with_low st)
  apart_low st count apart = λ k. ap (λ (v : ℕ → Bool). pulled (reset_of net) v k) (high_same st.values)
      ∙ both_low net is (high st.values) (past_low st count) k ∙ apart k

  next : (st : RunState) → length st.values ≡ length net.first → (k : ℕ) → length (moved net st k).values ≡ length net.first
  next st count k = length-set st.values k (not (high st.values k)) ∙ count

  safe_move_low : (st : RunState) → length st.values ≡ length net.first → (k : ℕ) → move_enabled net script st k ≡ true → IsSafeMove net script st k →
      IsSafeMove (reset_of net) script (with_low st) k
  safe_move_low st count k on safe = record {
    stable = λ m apart there. ap (λ (s : RunState). move_enabled (reset_of net) script s m) (moved_low st count k (within st count k on))
        ∙ enabled_low (moved net st k) (next st count k) m ∙ safe.stable m apart (sym (enabled_low st count m) ∙ there);
    phases = phase_low st count k ∙ safe.phases;
  }

  -- and so are runs

  pub run_low : (ns : List ℕ) (st : RunState) → length st.values ≡ length net.first → IsRun (reset_of net) script (with_low st) ns → IsRun net script st ns
  run_low [] st count run = tt
  run_low (n ∷ ns) st count run =
      let on : move_enabled net script st n ≡ true = sym (enabled_low st count n) ∙ run.0 in (
        on,
        run_low ns (moved net st n) (next st count n)
            (subst (λ (s : RunState). IsRun (reset_of net) script s ns) (moved_low st count n (within st count n on)) run.1),
      )

  pub after_low : (ns : List ℕ) (st : RunState) → length st.values ≡ length net.first → IsRun net script st ns →
      after (reset_of net) (with_low st) ns ≡ with_low (after net st ns)
  after_low [] st count run = refl
  after_low (n ∷ ns) st count run =
      ap (λ (s : RunState). after (reset_of net) s ns) (moved_low st count n (within st count n run.0)) ∙ after_low ns (moved net st n) (next st count n) run.1

  pub safe_low : (ns : List ℕ) (st : RunState) → length st.values ≡ length net.first → IsRun net script st ns → IsSafeRun net script st ns →
      IsSafeRun (reset_of net) script (with_low st) ns
  safe_low [] st count run safe = apart_low st count safe
  safe_low (n ∷ ns) st count run safe = (
    apart_low st count safe.0,
    safe_move_low st count n run.0 safe.1,
    subst (λ (s : RunState). IsSafeRun (reset_of net) script s ns) (sym (moved_low st count n (within st count n run.0)))
        (safe_low ns (moved net st n) (next st count n) run.1 safe.2),
  )

  pub rest_low : (st : RunState) → length st.values ≡ length net.first → IsAtRest (reset_of net) script (with_low st) → IsAtRest net script st
  rest_low st count rests = λ k. sym (enabled_low st count k) ∙ rests k
