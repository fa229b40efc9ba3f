-- A run stands in one way against the rounds of a program.
use Rattle.std.proofs.Common.{◌≡◌, ◌⊎◌, ◌∙◌, ℕ, ◌<◌, ◌≤◌, List, refl, ap, subst, inl, inr, arith}
use Rattle.std.proofs.lemmas.Bool.{cases_lt}
use Rattle.env_script.specs.Scripts.{OfferValue}
use Rattle.event_sim.specs.Simulating.{RanValue}
use Rattle.width_check.specs.Processes.{TypedProgram}
use Rattle.history_report.specs.declared.comparison.Against.{Against}
use Rattle.history_report.specs.declared.comparison.Against.TheVariants.{Agrees, Channels, Differs}
use Rattle.history_report.specs.Comparing.{IsFirstDifference, run_history, rounds_history, IsBehindRounds, IsAgainst}
use Rattle.history_report.proofs.Fronts.{not_both, same_place}

module _ (r : RanValue) (p : TypedProgram) (script : List OfferValue) where
  abbrev DiffersOn : ℕ → ℕ → Type 0
  DiffersOn chan place = IsFirstDifference (run_history r chan) (rounds_history r p script chan) place

  apart : (chan place : ℕ) → IsBehindRounds r p script chan → DiffersOn chan place → ⊥
  apart chan place front d = not_both (run_history r chan) (rounds_history r p script chan) place front d

  same_channel : (c d j k : ℕ) → ((earlier : ℕ) → earlier < c → IsBehindRounds r p script earlier) → DiffersOn c j
      → ((earlier : ℕ) → earlier < d → IsBehindRounds r p script earlier) → DiffersOn d k → c ≡ d
  same_channel c d j k before one behind two = by (cases_lt c d) (cases_lt d c)
    where
      by : (c < d) ⊎ (d ≤ c) → (d < c) ⊎ (c ≤ d) → c ≡ d
      by (inl less) other = absurd (apart c j (behind c less) one)
      by (inr most) (inl less) = absurd (apart d k (before d less) two)
      by (inr most) (inr least) = omega arith

  same_answer : (c d j k : ℕ) → c ≡ d → DiffersOn c j → DiffersOn d k → Differs c j ≡ Differs d k
  same_answer c d j k e one two =
      let place : j ≡ k = same_place (run_history r d) (rounds_history r p script d) j k (subst (λ (n : ℕ). DiffersOn n j) e one) two in
      ap (λ (n : ℕ). Differs n j) e ∙ ap (λ (n : ℕ). Differs d n) place

  pub compared_once : (a b : Against) → IsAgainst r p script a → IsAgainst r p script b → a ≡ b
  compared_once Agrees Agrees x y = refl
  compared_once Agrees Channels x y = absurd (y x.0)
  compared_once Agrees (Differs d k) x y = absurd (apart d k (x.1 d y.1) y.3)
  compared_once Channels Agrees x y = absurd (x y.0)
  compared_once Channels Channels x y = refl
  compared_once Channels (Differs d k) x y = absurd (x y.0)
  compared_once (Differs c j) Agrees x y = absurd (apart c j (y.1 c x.1) x.3)
  compared_once (Differs c j) Channels x y = absurd (y x.0)
  compared_once (Differs c j) (Differs d k) x y = same_answer c d j k (same_channel c d j k x.2 x.3 y.2 y.3) x.3 y.3
