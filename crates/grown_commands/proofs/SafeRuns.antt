-- A safe run has no hazard, and all runs of a net that carries a program are safe.
use Rattle.std.proofs.Common.{◌≡◌, ◌∙◌, ◌↔◌, ℕ, zero, suc, ◌==◌, Bool, true, false, List, [], ◌∷◌, length, Option, Some, None, inl, inr, ◌⊎◌, refl, sym, ap, subst}
use Rattle.std.specs.Prelude.{IsSome, option_map}
use Rattle.prs_core.specs.Nets.{NetValue, IsNet}
use Rattle.prs_core.specs.Moves.{high, both_ways}
use Rattle.env_script.specs.Environment.{net_channels}
use Rattle.env_script.specs.Scripts.{OfferValue, IsScript}
use Rattle.env_script.specs.Runs.{RunState, IsRun, IsApart, IsSafeMove, IsSafeRun, IsPowered, after, begin_at, moved}
use Rattle.env_script.specs.Hazards.{least_below, first_hazard, hazard_of}
use Rattle.env_script.specs.OneLength.{AllSafe}
use Rattle.event_sim.specs.declared.ran.End.{End}
use Rattle.event_sim.specs.declared.ran.End.TheVariants.{AtRest, Spent}
use Rattle.event_sim.specs.Ends.{calm_end, end_with, last_hazard, EndsSo}
use Rattle.event_sim.specs.Following.{enabled_moves, power_of}
use Rattle.net_compose.specs.Carries.{Carries, CarriesReset}
use Rattle.width_check.specs.Processes.{TypedProgram}
use Rattle.command_answers.specs.declared.answer.Ending.TheVariants.{Done}
use Rattle.run_reports.specs.RunReporting.{ending_for}

-- ---- a safe run has no hazard

none_below : (n : ℕ) (p : ℕ → Bool) → ((k : ℕ) → p k ≡ false) → least_below n p ≡ None
none_below zero p none = refl
none_below (suc n) p none = rw (none_below n p none, none n) refl

apart_calm : (net : NetValue) (st : RunState) → IsApart net st → first_hazard net st ≡ None
apart_calm net st apart = ap (option_map _) (none_below (length net.first) (both_ways net (high st.values)) apart)

module _ (net : NetValue) (script : List OfferValue)
    (law : (st : RunState) (n : ℕ) → IsSafeMove net script st n × IsApart net (moved net st n) → hazard_of net script st n ≡ None) where
  pub safe_calm : (st : RunState) (ns : List ℕ) → IsSafeRun net script st ns → last_hazard net script st ns ≡ None
  safe_calm st [] safe = apart_calm net st safe
  safe_calm st (n ∷ []) safe = law st n (safe.1, safe.2)
  safe_calm st (n ∷ m ∷ ns) safe = safe_calm (moved net st n) (m ∷ ns) safe.2

pub calm_done : (xs : List ℕ) (spent : Bool) (e : End) → calm_end xs spent ≡ Some e → ending_for e ≡ Done
calm_done [] spent e is = let same : AtRest ≡ e = cc is in ap ending_for (sym same)
calm_done (x ∷ xs) true e is = let same : Spent ≡ e = cc is in ap ending_for (sym same)
calm_done (x ∷ xs) false e is = absurd (cc is)

-- ---- all runs of a net that carries a program are safe

module _ (powered : (net : NetValue) (high : Bool) → IsNet net → IsSome net.reset → IsPowered net (power_of net high)) where
  pub all_safe : (n : NetValue) (p : TypedProgram) (script : List OfferValue) (high : Bool) → IsNet n → IsScript (net_channels n) script →
      ((n.reset ≡ None) × Carries n p) ⊎ CarriesReset n p → AllSafe n script (begin_at n (power_of n high))
  all_safe n p script high net suits (inl c) = λ ns run.
      let low : power_of n high ≡ n.first = first_values n high c.0 in
      let fits : IsScript p.channels script = subst (λ cs. IsScript cs script) c.1.channels suits in
      subst (λ v. IsSafeRun n script (begin_at n v) ns) (sym low) (c.1.runs script fits ns (subst (λ v. IsRun n script (begin_at n v) ns) low run)).safe
    where
      first_values : (n : NetValue) (high : Bool) → n.reset ≡ None → power_of n high ≡ n.first
      first_values n high none = rw none refl
  all_safe n p script high net suits (inr c) = λ ns run.
      let fits : IsScript p.channels script = subst (λ cs. IsScript cs script) c.channels suits in
      (c.runs script fits (power_of n high) (powered n high net (subst (λ (o : Option ℕ). IsSome o) (sym c.reset.1) refl)) ns run).0.safe

  module _ (law : (net : NetValue) (script : List OfferValue) (st : RunState) (n : ℕ) → IsNet net →
      ((IsSafeMove net script st n × IsApart net (moved net st n)) ↔ (hazard_of net script st n ≡ None))) where
    -- so such a run ends without a hazard
    pub run_calm : (n : NetValue) (script : List OfferValue) (st : RunState) (steps : ℕ) (ns : List ℕ) (end : End) → IsNet n → AllSafe n script st →
        IsRun n script st ns → EndsSo n script steps st ns end → ending_for end ≡ Done
    run_calm n script st steps ns end net safe run ends =
        let calm : last_hazard n script st ns ≡ None = safe_calm n script (λ st m is. (law n script st m net).0 is) st ns (safe ns run) in
        let ended : calm_end (enabled_moves n script (after n st ns)) (length ns == steps) ≡ Some end =
        sym (ap (λ h. end_with h (enabled_moves n script (after n st ns)) (length ns == steps)) calm) ∙ ends.ended in
        calm_done _ _ end ended
