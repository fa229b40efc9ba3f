-- Runs that never end: their sweeps, and what has passed in them.
--
-- nodes: the node of each move; before: how many moves come before some others.
use Rattle.std.proofs.Common.{◌≡◌, ◌⊎◌, ℕ, zero, suc, ◌+◌, ◌<◌, Bool, true, false, List, [], ◌∷◌, ◌++◌, length, refl, sym, ap, ◌∙◌, subst, inl, inr, arith}
use Rattle.std.specs.Prelude.{slice_get, Some}
use Rattle.std.proofs.lemmas.Bool.{cases_eq}
use Rattle.prs_core.specs.Nets.{NetValue, IsNet}
use Rattle.env_script.specs.Scripts.{OfferValue}
use Rattle.env_script.specs.Runs.{RunState, move_enabled, after}
use Rattle.env_script.specs.Sweeps.{IsSweep, Sweeps}
use Rattle.env_script.proofs.MovesWithin.{move_in}
use Rattle.env_script.proofs.Overtakes.{Among, contained, after_on}
use Rattle.net_pace.proofs.SweepLemmas.{among_first}
use Rattle.net_pace.specs.Endless.{stretch, state_after, SweepsEnd, NoNodeWaits}

-- what has passed is still there behind it
pub still_there : (xs rest : List ℕ) (k value : ℕ) → slice_get xs k ≡ Some value → slice_get (xs ++ rest) k ≡ Some value
still_there [] rest k value e = absurd (cc e)
still_there (x ∷ xs) rest zero value e = e
still_there (x ∷ xs) rest (suc k) value e = still_there xs rest k value e

module _ (nodes : ℕ → ℕ) where
  -- two stretches, one behind the other
  stretches : (before count more : ℕ) → stretch nodes before (count + more) ≡ stretch nodes before count ++ stretch nodes (before + count) more
  stretches before zero more =
      let none : 0 + more ≡ more = omega arith in
      let same : before + 0 ≡ before = omega arith in
      ap (stretch nodes before) none ∙ ap (λ b. stretch nodes b more) (sym same)
  stretches before (suc k) more =
      let next : suc k + more ≡ suc (k + more) = omega arith in
      let same : suc before + k ≡ before + suc k = omega arith in
      ap (stretch nodes before) next
      ∙ ap (λ l. nodes before ∷ l) (stretches (suc before) k more ∙ ap (λ b. stretch nodes (suc before) k ++ stretch nodes b more) same)

  in_stretch : (before more count : ℕ) → more < count → Among (stretch nodes before count) (nodes (before + more))
  in_stretch before more zero less = absurd (omega (arith, less))
  in_stretch before zero (suc k) less = let same : before ≡ before + 0 = omega arith in inl (ap nodes same)
  in_stretch before (suc m) (suc k) less =
      let same : suc before + m ≡ before + suc m = omega arith in
      inr (subst (λ b. Among (stretch nodes (suc before) k) (nodes b)) same (in_stretch (suc before) m k (omega (arith, less))))

  longer_stretch : (before count more : ℕ) (n : ℕ) → Among (stretch nodes before count) n → Among (stretch nodes before (count + more)) n
  longer_stretch before count more n i =
      subst (λ l. Among l n) (sym (stretches before count more)) (among_first (stretch nodes before count) (stretch nodes (before + count) more) n i)

  module _ (net : NetValue) (script : List OfferValue) (st : RunState) where
    state_on : (before count : ℕ) → after net (state_after net st nodes before) (stretch nodes before count) ≡ state_after net st nodes (before + count)
    state_on before count =
        let none : 0 + before ≡ before = omega arith in
        sym (after_on net script st (stretch nodes 0 before) (stretch nodes before count))
        ∙ ap (after net st) (sym (stretches 0 before count ∙ ap (λ b. stretch nodes 0 before ++ stretch nodes b count) none))

    -- where each sweep ends, the run goes on with as many as are wanted
    pub many_sweeps : SweepsEnd net script st nodes → (k before : ℕ)
        → (count : ℕ) × Sweeps net script (state_after net st nodes before) k (stretch nodes before count)
    many_sweeps ends zero before = (0, tt)
    many_sweeps ends (suc k) before =
        let first = ends before in
        let rest = many_sweeps ends k (before + first.0) in (
          first.0 + rest.0,
          (
            stretch nodes before first.0,
            stretch nodes (before + first.0) rest.0,
            stretches before first.0 rest.0,
            first.1,
            subst (λ (x : RunState). Sweeps net script x k (stretch nodes (before + first.0) rest.0)) (sym (state_on before first.0)) rest.1,
          ),
        )

    -- where no node waits for ever, those below a number have moved after some moves
    module _ (fair : NoNodeWaits net script st nodes) (before : ℕ) where
      abbrev Swept : (below count : ℕ) → Type 0
      Swept below count = (n : ℕ) → n < below → move_enabled net script (state_after net st nodes before) n ≡ true → Among (stretch nodes before count) n

      moved_by : (n : ℕ) → (count : ℕ) × (move_enabled net script (state_after net st nodes before) n ≡ true → Among (stretch nodes before count) n)
      moved_by n = by (move_enabled net script (state_after net st nodes before) n) refl
        where
          by : (b : Bool) → move_enabled net script (state_after net st nodes before) n ≡ b
              → (count : ℕ) × (move_enabled net script (state_after net st nodes before) n ≡ true → Among (stretch nodes before count) n)
          by true on =
              let f = fair before n on in
              (suc f.0, λ e. subst (λ m. Among (stretch nodes before (suc f.0)) m) f.1 (in_stretch before f.0 (suc f.0) (omega arith)))
          by false off = (0, λ on. absurd (cc (on, off)))

      swept_below : (below : ℕ) → (count : ℕ) × Swept below count
      swept_below zero = (0, λ n less on. absurd (omega (arith, less)))
      swept_below (suc k) =
          let those = swept_below k in
          let this = moved_by k in (
            those.0 + this.0,
            λ n less on. by those.0 those.1 this.0 this.1 n less on (cases_eq n k),
          )
        where
          by : (a : ℕ) → Swept k a → (b : ℕ) → (move_enabled net script (state_after net st nodes before) k ≡ true → Among (stretch nodes before b) k)
              → (n : ℕ) → n < suc k → move_enabled net script (state_after net st nodes before) n ≡ true → (n ≡ k) ⊎ (n ≡ k → ⊥)
              → Among (stretch nodes before (a + b)) n
          by a those b this n less on (inl same) =
              let more : b + a ≡ a + b = omega arith in
              subst (λ m. Among (stretch nodes before (a + b)) m) (sym same)
              (subst (λ c. Among (stretch nodes before c) k) more
              (longer_stretch before b a k (this (subst (λ m. move_enabled net script (state_after net st nodes before) m ≡ true) same on))))
          by a those b this n less on (inr apart) = longer_stretch before a b n (those n (omega (arith, less, apart)) on)

      pub sweep_ends : IsNet net → (count : ℕ) × IsSweep net script (state_after net st nodes before) (stretch nodes before count)
      sweep_ends whole =
          let all = swept_below (length net.first) in
          (all.0, λ n on. contained (stretch nodes before all.0) n (all.1 n (move_in net script (state_after net st nodes before) n whole on) on))
