-- The net of a covered program keeps time by either bound of a round, and so by the lesser one.
--
-- p: the program; is: that it is covered; small: that its net has not too many nodes.
use Rattle.std.proofs.Common.{ℕ, ◌*◌, ◌<◌, ◌≤◌, sym, ◌∙◌, subst, inl, inr, arith}
use Rattle.std.specs.Prelude.{◌⊎◌, min}
use Rattle.std.proofs.lemmas.Bool.{cases_lt}
use Rattle.std.proofs.Math.Nat.{min-eq_left, min_comm}
use Rattle.prs_core.specs.Nets.{IsNet}
use Rattle.width_check.specs.Processes.{TypedProgram}
use Rattle.width_check.specs.Typing.{IsTyped}
use Rattle.handshake_expand.specs.Layout.{nodes_of}
use Rattle.chp_meaning.specs.Halves.{ReadsNoTarget, HalvesArePlain, halved_program}
use Rattle.circuit_places.proofs.Settle.{CellsKeepTime}
use Rattle.round_time.specs.Longest.{longest}
use Rattle.circuit_ranks.proofs.Layers.{RoundsInLayers}
use Rattle.net_compose.specs.Translation.{translation}
use Rattle.net_compose.specs.Points.{IsTranslated, TranslationCarries}
use Rattle.net_compose.specs.Time.{KeepsTime, sweeps_for_round}
use Rattle.net_compose.proofs.TranslationTime.{HalvesKeepRounds, translation_keeps_time}
use Rattle.net_rounds.proofs.TranslationPace.{plainly_keeps_longest, keeps_in_halves}
use Rattle.net_pace.specs.Pace.{IsRoundTime, as_halves, as_whole}

-- what holds of two numbers holds of the lesser one
least : (F : ℕ → Type 0) (a b : ℕ) → F a → F b → F (min a b)
least F a b x y = by (cases_lt a b)
  where
    by : (a < b) ⊎ (b ≤ a) → F (min a b)
    by (inl less) = subst F (sym (min-eq_left {n = a} {m = b} (omega (arith, less)))) x
    by (inr le) = subst F (sym (min_comm a b ∙ min-eq_left {n = b} {m = a} le)) y

-- what is assumed here are laws
module _ (halves : HalvesArePlain) (twice : HalvesKeepRounds) (layers : RoundsInLayers) (cells : CellsKeepTime)
    (plain_keep : (p : TypedProgram) → IsTranslated p → ReadsNoTarget p.body → nodes_of p ≤ 65536 → KeepsTime (translation p) p (sweeps_for_round p))
    (whole : (p : TypedProgram) → IsTyped p.channels p.vars p.body → nodes_of p ≤ 65536 → IsNet (translation p)) (carry : TranslationCarries) where
  pub round_kept : (p : TypedProgram) → IsTranslated p → nodes_of p ≤ 65536 → (sweeps : ℕ) → IsRoundTime p sweeps → KeepsTime (translation p) p sweeps
  round_kept p is small sweeps as_halves = least (λ (k : ℕ). KeepsTime (translation p) p (2 * k)) (longest (halved_program p)) (sweeps_for_round p)
      (keeps_in_halves halves twice layers p is.typed is.sharing (whole p is.typed small) (carry p is))
      (translation_keeps_time halves twice cells p is.typed is.sharing (whole p is.typed small) (carry p is))
  round_kept p is small sweeps (as_whole plain) = least (λ (k : ℕ). KeepsTime (translation p) p k) (longest p) (sweeps_for_round p)
      (plainly_keeps_longest layers p is.typed is.sharing plain (whole p is.typed small) (carry p is)) (plain_keep p is plain small)
