-- One more pick of a picker that is asked along a run.
use Rattle.std.proofs.Common.{◌≡◌, ℕ, ◌+◌, ◌<◌, ◌≤◌, List, [], ◌∷◌, ◌++◌, length, get_or, take, refl, sym, ap, subst, ◌∙◌, inl, inr, arith}
use Rattle.std.specs.Prelude.{◌⊎◌, nat_le, if◌then◌else◌}
use Rattle.std.proofs.lemmas.Bool.{cases_lt, le-leb, lt-leb}
use Rattle.std.proofs.lemmas.List.{append-nil, length_push, take-append-le, take_all, get_or_append_left, append_assoc}
use Rattle.event_sim.specs.Simulating.{growth}
use Rattle.event_sim.specs.Asking.{PickerValue, IsPick, IsAskedAlong}
use Rattle.event_sim.proofs.Finishing.{growth_is}

pub asked_none : {P K : Type 0} (known : P → PickerValue K) (enabled : List ℕ → List ℕ) (was : P) →
    IsAskedAlong known enabled [] was was
asked_none known enabled was = record { after_picks = λ k. was; first = refl; last = refl; each = λ k below. absurd (omega arith) }

pub asked_more : {P K : Type 0} (known : P → PickerValue K) (enabled : List ℕ → List ℕ) (picks : List ℕ) (p : ℕ) (was mid is : P) →
    IsAskedAlong known enabled picks was mid → IsPick (enabled picks) p (known mid) (known is) →
    IsAskedAlong known enabled (picks ++ p ∷ []) was is
asked_more {P} known enabled picks p was mid is asked pick = record {
  after_picks = later;
  first = early 0 (omega arith) ∙ asked.first;
  last = ap later (length_push picks p) ∙ at_end;
  each = λ k below. by_place k below (cases_lt k (length picks));
}
  where
    later : ℕ → P
    later k = if nat_le k (length picks) then asked.after_picks k else is

    early : (k : ℕ) → k ≤ length picks → later k ≡ asked.after_picks k
    early k less = rw (le-leb k (length picks) less) refl

    at_end : later (length picks + 1) ≡ is
    at_end = rw (lt-leb (length picks + 1) (length picks) (omega arith)) refl

    one : (xs : List ℕ) → get_or (xs ++ p ∷ []) (length xs) 0 ≡ p
    one [] = refl
    one (x ∷ xs) = one xs

    by_place : (k : ℕ) → k < length (picks ++ p ∷ []) → (k < length picks) ⊎ (length picks ≤ k) →
        IsPick (enabled (take k (picks ++ p ∷ []))) (get_or (picks ++ p ∷ []) k 0) (known (later k)) (known (later (k + 1)))
    by_place k below (inl less) =
        rw (take-append-le k picks (p ∷ []) (omega arith), get_or_append_left picks (p ∷ []) 0 k less, early k (omega arith), early (k + 1) (omega arith))
        (asked.each k less)
    by_place k below (inr past) =
        let same : k ≡ length picks = omega (arith, length_push picks p) in
        subst (λ (n : ℕ). IsPick (enabled (take n (picks ++ p ∷ []))) (get_or (picks ++ p ∷ []) n 0) (known (later n))
        (known (later (n + 1)))) (sym same) here
      where
        front : take (length picks) (picks ++ p ∷ []) ≡ picks
        front = take-append-le (length picks) picks (p ∷ []) (omega arith) ∙ take_all (length picks) picks (omega arith)

        here : IsPick (enabled (take (length picks) (picks ++ p ∷ []))) (get_or (picks ++ p ∷ []) (length picks) 0)
            (known (later (length picks))) (known (later (length picks + 1)))
        here = rw (front, one picks, early (length picks) (omega arith), asked.last, at_end) pick

-- only the lists count that some of the picks lead to
pub asked_alike : {P K : Type 0} (known : P → PickerValue K) (enabled others : List ℕ → List ℕ) (picks : List ℕ) (was is : P) →
    ((k : ℕ) → k < length picks → enabled (take k picks) ≡ others (take k picks)) → IsAskedAlong known enabled picks was is →
    IsAskedAlong known others picks was is
asked_alike known enabled others picks was is same asked = record {
  after_picks = asked.after_picks;
  first = asked.first;
  last = asked.last;
  each = λ k below. subst (λ (list : List ℕ). IsPick list (get_or picks k 0) (known (asked.after_picks k)) (known (asked.after_picks (k + 1))))
      (same k below) (asked.each k below);
}

-- no pick yet
pub asked_not : {P K : Type 0} (known : P → PickerValue K) (enabled : List ℕ → List ℕ) (log : List ℕ) (was : P) →
    IsAskedAlong known enabled (growth log log) was was
asked_not known enabled log was =
    subst (λ (picks : List ℕ). IsAskedAlong known enabled picks was was) (sym (growth_is log log [] (sym (append-nil log))))
    (asked_none known enabled was)

-- one more, where the log has grown by these picks
pub asked_on : {P K : Type 0} (known : P → PickerValue K) (enabled : List ℕ → List ℕ) (before now later picks : List ℕ) (p : ℕ)
    (was mid is : P) → now ≡ before ++ picks → later ≡ now ++ p ∷ [] → IsAskedAlong known enabled (growth before now) was mid →
    IsPick (enabled picks) p (known mid) (known is) → IsAskedAlong known enabled (growth before later) was is
asked_on known enabled before now later picks p was mid is grown more asked pick =
    subst (λ (ps : List ℕ). IsAskedAlong known enabled ps was is) (sym (growth_is before later (picks ++ p ∷ []) whole))
    (asked_more known enabled picks p was mid is
    (subst (λ (ps : List ℕ). IsAskedAlong known enabled ps was mid) (growth_is before now picks grown) asked) pick)
  where
    whole : later ≡ before ++ (picks ++ p ∷ [])
    whole = more ∙ ap (λ (ps : List ℕ). ps ++ p ∷ []) grown ∙ append_assoc before picks (p ∷ [])
