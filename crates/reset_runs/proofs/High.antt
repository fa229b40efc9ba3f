-- While reset is high: which moves there are, that each is safe, and how reset falls.
use Rattle.std.proofs.Common.{◌≡◌, ◌≢◌, ℕ, zero, suc, ◌+◌, ◌<◌, ◌≤◌, Bool, true, false, None, List, [], ◌∷◌, ◌++◌, length, get_or, set, refl, sym, ap, ◌∙◌, inl, inr, arith, length-set}
use Rattle.std.specs.Prelude.{◌⊎◌, not, ◌&&◌, ◌||◌, ◌==◌, if◌then◌else◌, replicate, All}
use Rattle.std.proofs.Math.Seq.{set-append_seam}
use Rattle.std.proofs.lemmas.Bool.{and_parts, and_left, and_from, or_cases, or_left, cases_eq, cases_lt, eq-eqb, eqb-true, both_ways, not-true, or_parts, eqb-false, cond-true}
use Rattle.std.proofs.lemmas.List.{get_or_append_left, get_or_push, length_push, ext_get_or, get_or-set_same}
use Rattle.std.proofs.lemmas.List.Kept.{AllPairs-cons}
use Rattle.std.proofs.lemmas.List.Elements.{All-cons, All-nil}
use Rattle.prs_core.specs.Nets.{NetValue, IsNet, first_at}
use Rattle.prs_core.specs.Moves.{high, fired, rule_enabled}
use Rattle.reset_net.specs.Resets.{reset_of}
use Rattle.env_script.specs.Scripts.{OfferValue}
use Rattle.env_script.specs.Environment.{all_below, rules_rest, env_enabled}
use Rattle.env_script.specs.Runs.{RunState, IsRun, IsAtRest, IsApart, IsPowered, IsSafeMove, begin_at, run_start, IsOnceEach, completed, move_enabled, moved, histories_after, until_reset}
use Rattle.env_script.proofs.Commuting.{kept}
use Rattle.reset_runs.specs.Power.{with_low}
use Rattle.reset_runs.proofs.Driving.{same_state, driven, differs, strays, undriven_past, undriven_still, rule_high, both_high}

-- reset is high, each node without rules is at its first value, and nothing has passed
pub record IsHigh (net : NetValue) (st : RunState) : Type 0 where
  pub count : length st.values ≡ length net.first + 1
  pub up : high st.values (length net.first) ≡ true
  pub others : (k : ℕ) → k < length net.first → driven net k ≡ false → high st.values k ≡ first_at net k
  pub nothing : st.histories ≡ replicate (length net.channels) []

pub high_at_first : (net : NetValue) → IsNet net → (values : List Bool) → IsPowered (reset_of net) values → IsHigh net (begin_at (reset_of net) values)
high_at_first net is values powered = record {
  count = powered.count ∙ length_push net.first true;
  up = powered.others (length net.first) (undriven_still net is (length net.first) (undriven_past net is (length net.first) (omega arith)))
      ∙ get_or_push net.first true false (length net.first) refl;
  others = λ k within none. powered.others k (undriven_still net is k none) ∙ get_or_append_left net.first (true ∷ []) false k within;
  nothing = refl;
}

all_below_at : (count n : ℕ) (p : ℕ → Bool) → all_below count p ≡ true → n < count → p n ≡ true
all_below_at zero n p all within = absurd (omega arith)
all_below_at (suc count) n p all within = by_place (cases_eq n count) (λ less. all_below_at count n p (and_parts _ _ all).0 less)
  where
    by_place : (n ≡ count) ⊎ (n ≡ count → ⊥) → (n < count → p n ≡ true) → p n ≡ true
    by_place (inl same) below = ap p same ∙ (and_parts (all_below count p) (p count) all).1
    by_place (inr apart) below = below (omega arith)

all_below_from : (count : ℕ) (p : ℕ → Bool) → ((n : ℕ) → p n ≡ true) → all_below count p ≡ true
all_below_from zero p each = refl
all_below_from (suc count) p each = and_from _ _ (all_below_from count p each) (each count)

strays_driven : (a b : Bool) → (a && b) ≡ true → a ≡ false → ⊥
strays_driven a b on off = both_ways a off (and_parts a b on).0

settled : (x y : Bool) → differs x y ≡ false → x ≡ y
settled true true e = refl
settled true false e = absurd (cc e)
settled false true e = absurd (cc e)
settled false false e = refl

strayed : (x y : Bool) → differs x y ≡ true → not x ≡ y
strayed true true e = absurd (cc e)
strayed true false e = refl
strayed false true e = refl
strayed false false e = absurd (cc e)

lt_ne : (a b : ℕ) → a < b → a ≡ b → ⊥
lt_ne a b less same = absurd (omega arith)

module _ (net : NetValue) (is : IsNet net) (script : List OfferValue) where
  -- a node that strays isn't the reset node
  not_last : (v : ℕ → Bool) (k : ℕ) → strays net v k ≡ true → k < length net.first
  not_last v k on = by_place (cases_lt k (length net.first))
    where
      by_place : (k < length net.first) ⊎ (length net.first ≤ k) → k < length net.first
      by_place (inl within) = within
      by_place (inr past) = absurd (strays_driven _ _ on (undriven_past net is k past))

  enabled_high : (st : RunState) → IsHigh net st → (k : ℕ) →
      move_enabled (reset_of net) script st k ≡ (strays net (high st.values) k || ((k == length net.first) && rules_rest (reset_of net) (high st.values)))
  enabled_high st h k =
      ap (λ b. b || env_enabled (reset_of net) script (completed st.histories) (high st.values) k) (rule_high net is (high st.values) h.up k)
      ∙ ap (λ b. strays net (high st.values) k || b) (cond-true (high st.values (length net.first)) _ _ h.up)

  stray_or_fall : (st : RunState) → IsHigh net st → (k : ℕ) → move_enabled (reset_of net) script st k ≡ true →
      (strays net (high st.values) k ≡ true) ⊎ ((k ≡ length net.first) × (rules_rest (reset_of net) (high st.values) ≡ true))
  stray_or_fall st h k on = by_case (or_cases _ _ (sym (enabled_high st h k) ∙ on))
    where
      by_case : (strays net (high st.values) k ≡ true) ⊎ (((k == length net.first) && rules_rest (reset_of net) (high st.values)) ≡ true) →
          (strays net (high st.values) k ≡ true) ⊎ ((k ≡ length net.first) × (rules_rest (reset_of net) (high st.values) ≡ true))
      by_case (inl stray) = inl stray
      by_case (inr fall) = let p = and_parts _ _ fall in inr (eqb-true _ _ p.0, p.1)

  pub stray_not_fall : (st : RunState) → IsHigh net st → (k : ℕ) → (k == length net.first) ≡ false → move_enabled (reset_of net) script st k ≡ true →
      strays net (high st.values) k ≡ true
  stray_not_fall st h k other on = by_case (stray_or_fall st h k on)
    where
      by_case : (strays net (high st.values) k ≡ true) ⊎ ((k ≡ length net.first) × (rules_rest (reset_of net) (high st.values) ≡ true)) →
          strays net (high st.values) k ≡ true
      by_case (inl stray) = stray
      by_case (inr fall) = absurd (eqb-false k (length net.first) other fall.0)

  pub may_fall : (st : RunState) → IsHigh net st → (k : ℕ) → (k == length net.first) ≡ true → move_enabled (reset_of net) script st k ≡ true →
      rules_rest (reset_of net) (high st.values) ≡ true
  may_fall st h k here on = by_case (stray_or_fall st h k on)
    where
      by_case : (strays net (high st.values) k ≡ true) ⊎ ((k ≡ length net.first) × (rules_rest (reset_of net) (high st.values) ≡ true)) →
          rules_rest (reset_of net) (high st.values) ≡ true
      by_case (inl stray) = absurd (lt_ne k (length net.first) (not_last (high st.values) k stray) (eqb-true k (length net.first) here))
      by_case (inr fall) = fall.1

  -- where reset may fall no node strays, and where none does it may
  none_strays : (st : RunState) → IsHigh net st → rules_rest (reset_of net) (high st.values) ≡ true → (k : ℕ) → strays net (high st.values) k ≡ false
  none_strays st h rest k = by_place (cases_lt k (length net.first))
    where
      by_place : (k < length net.first) ⊎ (length net.first ≤ k) → strays net (high st.values) k ≡ false
      by_place (inl within) =
          sym (rule_high net is (high st.values) h.up k)
          ∙ not-true _ (all_below_at (length (reset_of net).first) k (λ m. not (rule_enabled (reset_of net) (high st.values) m)) rest
          (omega (arith, length_push net.first true)))
      by_place (inr past) = and_left _ _ (undriven_past net is k past)

  rests_then : (st : RunState) → IsHigh net st → ((k : ℕ) → strays net (high st.values) k ≡ false) → rules_rest (reset_of net) (high st.values) ≡ true
  rests_then st h none =
      all_below_from (length (reset_of net).first) (λ m. not (rule_enabled (reset_of net) (high st.values) m))
      (λ m. ap not (rule_high net is (high st.values) h.up m ∙ none m))

  -- so something may still move
  pub goes_high : (st : RunState) → IsHigh net st → ¬ IsAtRest (reset_of net) script st
  goes_high st h rests =
      let none : (k : ℕ) → strays net (high st.values) k ≡ false = λ k. (or_parts _ _ (sym (enabled_high st h k) ∙ rests k)).0 in
      let fall : ((length net.first == length net.first) && rules_rest (reset_of net) (high st.values)) ≡ false =
      (or_parts _ _ (sym (enabled_high st h (length net.first)) ∙ rests (length net.first))).1 in
      both_ways _ fall (and_from _ _ (eq-eqb (length net.first) (length net.first) refl) (rests_then st h none))

  pub apart_high : (st : RunState) → IsHigh net st → IsApart (reset_of net) st
  apart_high st h k = both_high net is (high st.values) h.up k

  -- A node that strays moves.

  stray_same : (st : RunState) (k m : ℕ) → m ≢ k → strays net (high (fired st.values k)) m ≡ strays net (high st.values) m
  stray_same st k m apart = ap (λ b. driven net m && differs b (first_at net m)) (kept st.values k m apart)

  pub stray_next : (st : RunState) → IsHigh net st → (k : ℕ) → strays net (high st.values) k ≡ true → IsHigh net (moved (reset_of net) st k)
  stray_next st h k on =
      let within = not_last (high st.values) k on in
      record {
        count = length-set st.values k (not (high st.values k)) ∙ h.count;
        up = kept st.values k (length net.first) (λ e. lt_ne k (length net.first) within (sym e)) ∙ h.up;
        others = λ m here none. kept st.values k m (λ e. strays_driven _ _ on (ap (driven net) (sym e) ∙ none)) ∙ h.others m here none;
        nothing = cond-true (high st.values (length net.first)) st.histories _ h.up ∙ h.nothing;
      }

  pub stray_safe : (st : RunState) → IsHigh net st → (k : ℕ) → strays net (high st.values) k ≡ true → IsSafeMove (reset_of net) script st k
  stray_safe st h k on = record {
    stable = λ m apart there. by_case m apart (stray_or_fall st h m there);
    phases = cond-true (high st.values (length net.first)) None _ h.up;
  }
    where
      by_case : (m : ℕ) → m ≢ k → (strays net (high st.values) m ≡ true) ⊎ ((m ≡ length net.first) × (rules_rest (reset_of net) (high st.values) ≡ true)) →
          move_enabled (reset_of net) script (moved (reset_of net) st k) m ≡ true
      by_case m apart (inl stray) = enabled_high (moved (reset_of net) st k) (stray_next st h k on) m ∙ or_left _ _ (stray_same st k m apart ∙ stray)
      by_case m apart (inr fall) = absurd (both_ways _ (none_strays st h fall.1 k) on)

  -- Reset falls.

  pub fall_safe : (st : RunState) → IsHigh net st → rules_rest (reset_of net) (high st.values) ≡ true → IsSafeMove (reset_of net) script st (length net.first)
  fall_safe st h rest = record {
    stable = λ m apart there. absurd (by_case m apart (stray_or_fall st h m there));
    phases = cond-true (high st.values (length net.first)) None _ h.up;
  }
    where
      by_case : (m : ℕ) → m ≢ length net.first →
          (strays net (high st.values) m ≡ true) ⊎ ((m ≡ length net.first) × (rules_rest (reset_of net) (high st.values) ≡ true)) → ⊥
      by_case m apart (inl stray) = both_ways _ (none_strays st h rest m) stray
      by_case m apart (inr fall) = apart fall.0

  first_of : (st : RunState) → IsHigh net st → rules_rest (reset_of net) (high st.values) ≡ true → (k : ℕ) → k < length net.first →
      high st.values k ≡ first_at net k
  first_of st h rest k within = by_rules (driven net k) refl
    where
      by_rules : (b : Bool) → driven net k ≡ b → high st.values k ≡ first_at net k
      by_rules true e = settled _ _ (sym (ap (λ b. b && differs (high st.values k) (first_at net k)) e) ∙ none_strays st h rest k)
      by_rules false e = h.others k within e

  -- it does so only when all nodes have their first values
  all_first : (st : RunState) → IsHigh net st → rules_rest (reset_of net) (high st.values) ≡ true → st.values ≡ net.first ++ true ∷ []
  all_first st h rest =
      ext_get_or false st.values (net.first ++ true ∷ []) (h.count ∙ sym (length_push net.first true))
      (λ k within. by_place k within (cases_lt k (length net.first)))
    where
      by_place : (k : ℕ) → k < length st.values → (k < length net.first) ⊎ (length net.first ≤ k) →
          get_or st.values k false ≡ get_or (net.first ++ true ∷ []) k false
      by_place k within (inl here) = first_of st h rest k here ∙ sym (get_or_append_left net.first (true ∷ []) false k here)
      by_place k within (inr past) =
          let e : k ≡ length net.first = omega (arith, h.count) in
          ap (high st.values) e ∙ h.up ∙ sym (get_or_push net.first true false k (sym e))

  pub at_start : (st : RunState) → IsHigh net st → rules_rest (reset_of net) (high st.values) ≡ true → st ≡ run_start (reset_of net)
  at_start st h rest = same_state st.values _ st.histories _ (all_first st h rest) h.nothing

  pub fallen : (st : RunState) → IsHigh net st → rules_rest (reset_of net) (high st.values) ≡ true →
      moved (reset_of net) st (length net.first) ≡ with_low (run_start net)
  fallen st h rest =
      same_state (fired st.values (length net.first)) _ (histories_after (reset_of net) st (length net.first)) _
      (ap (λ b. set st.values (length net.first) (not b)) h.up ∙ ap (λ vs. set vs (length net.first) false) (all_first st h rest)
      ∙ set-append_seam net.first true [] false)
      (cond-true (high st.values (length net.first)) st.histories _ h.up ∙ h.nothing)

  -- No node moves twice.

  strays_not : (x y : Bool) → x ≡ y → differs x y ≡ true → ⊥
  strays_not true true e on = cc on
  strays_not true false e on = cc e
  strays_not false true e on = cc e
  strays_not false false e on = cc on

  never_again : (ns : List ℕ) (st : RunState) → IsHigh net st → (k : ℕ) → high st.values k ≡ first_at net k → IsRun (reset_of net) script st ns →
      All (λ m. k ≢ m) (until_reset (reset_of net).reset ns)
  never_again [] st h k first run = All-nil (λ m. k ≢ m)
  never_again (n ∷ ns) st h k first run =
      by_test (n == length net.first) refl (λ on apart. never_again ns (moved (reset_of net) st n) (stray_next st h n on) k (kept st.values n k apart ∙ first)
      run.1)
    where
      by_test : (b : Bool) → (n == length net.first) ≡ b →
          (strays net (high st.values) n ≡ true → k ≢ n → All (λ m. k ≢ m) (until_reset (reset_of net).reset ns)) →
          All (λ m. k ≢ m) (if b then [] else n ∷ until_reset (reset_of net).reset ns)
      by_test true e later = All-nil (λ m. k ≢ m)
      by_test false e later =
          let on = stray_not_fall st h n e run.0 in
          let apart : k ≢ n = λ (same : k ≡ n). strays_not _ _ (ap (high st.values) (sym same) ∙ first ∙ ap (first_at net) same) (and_parts _ _ on).1 in
          All-cons (λ m. k ≢ m) n (until_reset (reset_of net).reset ns) apart (later on apart)

  turned_first : (st : RunState) → IsHigh net st → (k : ℕ) → strays net (high st.values) k ≡ true → high (fired st.values k) k ≡ first_at net k
  turned_first st h k on =
      get_or-set_same st.values k (not (high st.values k)) false (omega (arith, not_last (high st.values) k on, h.count)) ∙ strayed _ _ (and_parts _ _ on).1

  pub once_each : (ns : List ℕ) (st : RunState) → IsHigh net st → IsRun (reset_of net) script st ns → IsOnceEach (until_reset (reset_of net).reset ns)
  once_each [] st h run = λ i j d below within. absurd (omega arith)
  once_each (n ∷ ns) st h run = by_test (n == length net.first) refl (λ on. once_each ns (moved (reset_of net) st n) (stray_next st h n on) run.1)
    where
      by_test : (b : Bool) → (n == length net.first) ≡ b → (strays net (high st.values) n ≡ true → IsOnceEach (until_reset (reset_of net).reset ns)) →
          IsOnceEach (if b then [] else n ∷ until_reset (reset_of net).reset ns)
      by_test true e later = λ i j d below within. absurd (omega arith)
      by_test false e later =
          let on = stray_not_fall st h n e run.0 in
          AllPairs-cons (λ (a b : ℕ). a ≢ b) n (until_reset (reset_of net).reset ns)
          (never_again ns (moved (reset_of net) st n) (stray_next st h n on) n (turned_first st h n on) run.1)
          (later on)
