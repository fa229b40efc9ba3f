-- Where all runs of a net are bounded, each goes on to one that rests.
use Rattle.std.proofs.Common.{◌≡◌, ◌⊎◌, ℕ, zero, suc, ◌+◌, ◌<◌, ◌≤◌, Bool, true, false, List, [], ◌∷◌, ◌++◌, length, refl, sym, ap, ◌∙◌, subst, inl, inr, arith, append_assoc, append-nil}
use Rattle.std.proofs.lemmas.Bool.{cases_eq, cases_lt}
use Rattle.std.proofs.lemmas.List.{length-append}
use Rattle.prs_core.specs.Nets.{NetValue}
use Rattle.env_script.specs.Scripts.{OfferValue}
use Rattle.env_script.specs.Runs.{RunState, move_enabled, moved, IsRun, after, IsAtRest}

module _ (net : NetValue) (script : List OfferValue) (count : ℕ) (past : (st : RunState) (n : ℕ) → count ≤ n → move_enabled net script st n ≡ false) where
  abbrev May : RunState → Type 0
  May st = (n : ℕ) × (move_enabled net script st n ≡ true)

  some_or_none : (st : RunState) (k : ℕ) → May st ⊎ ((n : ℕ) → n < k → move_enabled net script st n ≡ false)
  some_or_none st zero = inr (λ n less. absurd (omega (arith, less)))
  some_or_none st (suc k) = by (move_enabled net script st k) refl (some_or_none st k)
    where
      by : (b : Bool) → move_enabled net script st k ≡ b → May st ⊎ ((n : ℕ) → n < k → move_enabled net script st n ≡ false)
          → May st ⊎ ((n : ℕ) → n < suc k → move_enabled net script st n ≡ false)
      by true e r = inl (k, e)
      by false e (inl m) = inl m
      by false e (inr none) = inr (λ n less. at n (cases_eq n k) less)
        where
          at : (n : ℕ) → (n ≡ k) ⊎ (n ≡ k → ⊥) → n < suc k → move_enabled net script st n ≡ false
          at n (inl same) less = ap (move_enabled net script st) same ∙ e
          at n (inr ne) less = none n (omega (arith, less, ne))

  pub rests_or_goes : (st : RunState) → IsAtRest net script st ⊎ May st
  rests_or_goes st = by (some_or_none st count)
    where
      by : May st ⊎ ((n : ℕ) → n < count → move_enabled net script st n ≡ false) → IsAtRest net script st ⊎ May st
      by (inl m) = inr m
      by (inr none) = inl (λ n. at n (cases_lt n count))
        where
          at : (n : ℕ) → (n < count) ⊎ (count ≤ n) → move_enabled net script st n ≡ false
          at n (inl less) = none n less
          at n (inr far) = past st n far

  one_more : (ns : List ℕ) (st : RunState) (n : ℕ) → IsRun net script st ns → move_enabled net script (after net st ns) n ≡ true
      → IsRun net script st (ns ++ n ∷ [])
  one_more [] st n run on = (on, tt)
  one_more (m ∷ ns) st n run on = (run.0, one_more ns (moved net st m) n run.1 on)

  here : (st : RunState) (ns : List ℕ) → IsRun net script st ns → IsAtRest net script (after net st ns)
      → (more : List ℕ) × IsRun net script st (ns ++ more) × IsAtRest net script (after net st (ns ++ more))
  here st ns run rest = (
    [],
    subst (λ l. IsRun net script st l) (sym (append-nil ns)) run,
    subst (λ l. IsAtRest net script (after net st l)) (sym (append-nil ns)) rest,
  )

  pub goes_on : (most fuel : ℕ) (st : RunState) → ((ns : List ℕ) → IsRun net script st ns → length ns ≤ most) → (ns : List ℕ) → IsRun net script st ns
      → most ≤ length ns + fuel → (more : List ℕ) × IsRun net script st (ns ++ more) × IsAtRest net script (after net st (ns ++ more))
  goes_on most zero st bound ns run near = by (rests_or_goes (after net st ns))
    where
      by : IsAtRest net script (after net st ns) ⊎ May (after net st ns)
          → (more : List ℕ) × IsRun net script st (ns ++ more) × IsAtRest net script (after net st (ns ++ more))
      by (inl rest) = here st ns run rest
      by (inr m) =
          let l : length (ns ++ m.0 ∷ []) ≡ length ns + 1 = length-append ns (m.0 ∷ []) in
          let b = bound (ns ++ m.0 ∷ []) (one_more ns st m.0 run m.1) in
          absurd (omega (arith, l, b, near))
  goes_on most (suc fuel) st bound ns run near =
      by (rests_or_goes (after net st ns)) (λ n on less. goes_on most fuel st bound (ns ++ n ∷ []) on less)
    where
      by : IsAtRest net script (after net st ns) ⊎ May (after net st ns)
          → ((n : ℕ) → IsRun net script st (ns ++ n ∷ []) → most ≤ length (ns ++ n ∷ []) + fuel
          → (more : List ℕ) × IsRun net script st ((ns ++ n ∷ []) ++ more) × IsAtRest net script (after net st ((ns ++ n ∷ []) ++ more)))
          → (more : List ℕ) × IsRun net script st (ns ++ more) × IsAtRest net script (after net st (ns ++ more))
      by (inl rest) go = here st ns run rest
      by (inr m) go =
          let l : length (ns ++ m.0 ∷ []) ≡ length ns + 1 = length-append ns (m.0 ∷ []) in
          let r = go m.0 (one_more ns st m.0 run m.1) (omega (arith, l, near)) in
          let e : (ns ++ m.0 ∷ []) ++ r.0 ≡ ns ++ m.0 ∷ r.0 = append_assoc ns (m.0 ∷ []) r.0 in
          (m.0 ∷ r.0, subst (λ l. IsRun net script st l) e r.1, subst (λ l. IsAtRest net script (after net st l)) e r.2)
