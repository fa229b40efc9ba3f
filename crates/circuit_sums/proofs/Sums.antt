-- From its first state the circuit of each covered program whose assignments don't read their own target makes n rounds in as many layers of moves as the
-- phases of their steps come to, which are no more than n times `longest`.
--
-- P: the program; s: its script; n: how many rounds.
use Rattle.std.proofs.Common.{◌≡◌, ℕ, suc, ◌*◌, ◌≤◌, List, [], ◌++◌, length, refl, sym, ap, ◌∙◌, arith}
use Rattle.std.proofs.lemmas.List.{append-nil}
use Rattle.env_script.specs.Scripts.{OfferValue, IsScript}
use Rattle.env_script.specs.Runs.{history_at}
use Rattle.width_check.specs.Processes.{TypedProgram}
use Rattle.chp_meaning.specs.Halves.{IsPlain}
use Rattle.chp_meaning.specs.Steps.{Configuration, Leads, no_step, one_step, start_of}
use Rattle.chp_meaning.specs.Rounds.{rounds}
use Rattle.chp_meaning.proofs.Fitting.{opened_fits, meeting_sound}
use Rattle.circuit_places.specs.Whole.{Node, first_cells, at_first}
use Rattle.circuit_places.proofs.Trees.{TreesSettle}
use Rattle.circuit_places.proofs.Meets.{ExpressionsHold}
use Rattle.circuit_places.proofs.Carry.{fits, reached}
use Rattle.round_time.specs.Longest.{first, longest}
use Rattle.round_time.specs.Sums.{rounds_sum}
use Rattle.circuit_time.proofs.Levels.{AreSpread, spread_behind}
use Rattle.circuit_ranks.proofs.SiteRooms.{long}
use Rattle.circuit_sums.proofs.Summed.{Summed, along}
use Rattle.circuit_sums.proofs.FirstRound.{first_below}

-- for each number of rounds so many layers of moves have passed what they pass
abbrev pub RoundsInSums : Type 0
RoundsInSums = (P : TypedProgram) → IsPlain P → (script : List OfferValue) → IsScript P.channels script → (n : ℕ)
    → (layers : List (List (Node P.body))) × (length layers ≡ rounds_sum P script n) × AreSpread P script (first_cells P) layers
    × ((k : ℕ) → (rest : List ℕ) × (history_at (spread_behind P (first_cells P) layers).histories k ≡ history_at (rounds P script n).histories k ++ rest))

-- no steps lead nowhere
led_nowhere : {c d : Configuration} {n : ℕ} → Leads c n d → n ≤ 0 → d ≡ c
led_nowhere no_step e = refl
led_nowhere (one_step s l) e = absurd (omega (arith, e))

module _ (law : TreesSettle) (hold : ExpressionsHold) where
  from_first : (P : TypedProgram) → IsPlain P → (script : List OfferValue) → IsScript P.channels script → (n : ℕ)
      → Summed P script (start_of P script) (first_cells P) n (suc (first P P.body))
  from_first P is script s n =
      let fitted = fits P script is.sized s in
      let r = reached law hold P is script s 0 (first_cells P) at_first in
      let fit = opened_fits P.body (meeting_sound P.body is.unshared) in
      along P script fitted is.sized.body_is n (suc (first P P.body)) (first_cells P) r fit (first_below P script fitted r) (start_of P script)
      (led_nowhere r.followed.leads r.followed.within) fit

  pub rounds_in_sums : RoundsInSums
  rounds_in_sums P is script s n =
      let a = from_first P is script s n in
      (a.layers, a.long, a.are, λ k. ([], ap (λ hs. history_at hs k) a.passed ∙ sym (append-nil (history_at (rounds P script n).histories k))))

  -- they are no more than `longest` says
  pub sums_in_longest : (P : TypedProgram) → IsPlain P → (script : List OfferValue) → IsScript P.channels script → (n : ℕ)
      → rounds_sum P script n ≤ n * longest P
  sums_in_longest P is script s n = let l = long P in (from_first P is script s n).few (omega (arith, l))
