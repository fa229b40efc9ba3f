-- A run from power-up, move by move: until reset falls, and behind that.
use Rattle.std.proofs.Common.{◌≡◌, ℕ, Bool, true, false, None, List, [], ◌∷◌, ◌++◌, length, refl, sym, ap, ◌∙◌, subst, inl, inr}
use Rattle.std.specs.Prelude.{◌⊎◌, ◌==◌}
use Rattle.std.proofs.lemmas.Bool.{eq-eqb, eqb-true, cond-true, cond-false}
use Rattle.prs_core.specs.Nets.{NetValue, IsNet}
use Rattle.prs_core.specs.Moves.{high}
use Rattle.reset_net.specs.Resets.{reset_of}
use Rattle.env_script.specs.Scripts.{OfferValue}
use Rattle.env_script.specs.Environment.{rules_rest}
use Rattle.env_script.specs.Runs.{RunState, IsRun, IsSafeRun, IsAtRest, after, begin_at, run_start, moved, until_reset, moves_since_reset}
use Rattle.reset_runs.specs.Power.{with_low, IsBefore, AfterReset, EachFromPower}
use Rattle.reset_runs.proofs.Driving.{strays}
use Rattle.reset_runs.proofs.High.{IsHigh, high_at_first, goes_high, apart_high, stray_next, stray_safe, stray_not_fall, may_fall, fall_safe, at_start, fallen, once_each}
use Rattle.reset_runs.proofs.Fallen.{count_after, run_low, after_low, safe_low, rest_low}

module _ (net : NetValue) (is : IsNet net) (plain : net.reset ≡ None) (script : List OfferValue) where
  -- reset falls first
  falls : (ns : List ℕ) (st : RunState) → IsHigh net st → rules_rest (reset_of net) (high st.values) ≡ true →
      IsRun (reset_of net) script st (length net.first ∷ ns) → AfterReset net script st (length net.first ∷ ns)
  falls ns st h rest run =
      let here : (length net.first == length net.first) ≡ true = eq-eqb (length net.first) (length net.first) refl in
      let none : until_reset (reset_of net).reset (length net.first ∷ ns) ≡ [] =
      cond-true (length net.first == length net.first) [] (length net.first ∷ until_reset (reset_of net).reset ns) here in
      let down : moved (reset_of net) st (length net.first) ≡ with_low (run_start net) = fallen net is script st h rest in
      let since : IsRun net script (run_start net) ns =
      run_low net is plain script ns (run_start net) refl (subst (λ (s : RunState). IsRun (reset_of net) script s ns) down run.1) in
      let ends : after (reset_of net) (moved (reset_of net) st (length net.first)) ns ≡ with_low (after net (run_start net) ns) =
      ap (λ (s : RunState). after (reset_of net) s ns) down ∙ after_low net is plain script ns (run_start net) refl since in
      record {
        since = ns;
        whole = ap (λ (xs : List ℕ). xs ++ length net.first ∷ ns) (sym none);
        at_first = ap (after (reset_of net) st) none ∙ at_start net is script st h rest;
        run = since;
        counted = cond-true (length net.first == length net.first) (length ns) (moves_since_reset (reset_of net).reset ns) here;
        ends = ends;
        safe = λ safe. (
          apart_high net is script st h,
          fall_safe net is script st h rest,
          subst (λ (s : RunState). IsSafeRun (reset_of net) script s ns) (sym down) (safe_low net is plain script ns (run_start net) refl since safe),
        );
        rests = λ rests. rest_low net is plain script (after net (run_start net) ns) (count_after net ns (run_start net))
            (subst (λ (s : RunState). IsAtRest (reset_of net) script s) ends rests);
      }

  -- another node moves first
  one_more : (n : ℕ) (ns : List ℕ) (st : RunState) → IsHigh net st → (n == length net.first) ≡ false → strays net (high st.values) n ≡ true →
      IsBefore net script (moved (reset_of net) st n) ns ⊎ AfterReset net script (moved (reset_of net) st n) ns →
      IsBefore net script st (n ∷ ns) ⊎ AfterReset net script st (n ∷ ns)
  one_more n ns st h other on (inl b) = inl (record {
    whole = cond-false (n == length net.first) [] (n ∷ until_reset (reset_of net).reset ns) other ∙ ap (λ (xs : List ℕ). n ∷ xs) b.whole;
    safe = (apart_high net is script st h, stray_safe net is script st h n on, b.safe);
    nothing = b.nothing;
    counted = cond-false (n == length net.first) (length ns) (moves_since_reset (reset_of net).reset ns) other ∙ b.counted;
    goes = b.goes;
  })
  one_more n ns st h other on (inr b) =
      let still : until_reset (reset_of net).reset (n ∷ ns) ≡ n ∷ until_reset (reset_of net).reset ns =
      cond-false (n == length net.first) [] (n ∷ until_reset (reset_of net).reset ns) other in
      inr (record {
        since = b.since;
        whole = ap (λ (xs : List ℕ). n ∷ xs) b.whole ∙ ap (λ (xs : List ℕ). xs ++ length net.first ∷ b.since) (sym still);
        at_first = ap (after (reset_of net) st) still ∙ b.at_first;
        run = b.run;
        counted = cond-false (n == length net.first) (length ns) (moves_since_reset (reset_of net).reset ns) other ∙ b.counted;
        ends = b.ends;
        safe = λ safe. (apart_high net is script st h, stray_safe net is script st h n on, b.safe safe);
        rests = b.rests;
      })

  course : (ns : List ℕ) (st : RunState) → IsHigh net st → IsRun (reset_of net) script st ns → IsBefore net script st ns ⊎ AfterReset net script st ns
  course [] st h run = inl (record {
    whole = refl;
    safe = apart_high net is script st h;
    nothing = h.nothing;
    counted = refl;
    goes =
        goes_high net is script st h;
  })
  course (n ∷ ns) st h run = by_test (n == length net.first) refl (λ on. course ns (moved (reset_of net) st n) (stray_next net is script st h n on) run.1)
    where
      by_test : (b : Bool) → (n == length net.first) ≡ b →
          (strays net (high st.values) n ≡ true → IsBefore net script (moved (reset_of net) st n) ns ⊎ AfterReset net script (moved (reset_of net) st n) ns) →
          IsBefore net script st (n ∷ ns) ⊎ AfterReset net script st (n ∷ ns)
      by_test true e later =
          let same : n ≡ length net.first = eqb-true n (length net.first) e in
          inr (subst (λ (m : ℕ). AfterReset net script st (m ∷ ns)) (sym same)
          (falls ns st h (may_fall net is script st h n e run.0) (subst (λ (m : ℕ). IsRun (reset_of net) script st (m ∷ ns)) same run)))
      by_test false e later = let on = stray_not_fall net is script st h n e run.0 in one_more n ns st h e on (later on)

pub each_from_power : (net : NetValue) → IsNet net → net.reset ≡ None → EachFromPower net
each_from_power net is plain script values powered moves run =
    let h = high_at_first net is values powered in
    record {
      once = once_each net is script moves (begin_at (reset_of net) values) h run;
      course = course net is plain script moves (begin_at (reset_of net) values) h run;
    }
