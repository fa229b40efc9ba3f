-- What a net passes in so many sweeps it passes in a run of as many layers: each layer makes all moves that are enabled where
-- it begins, and so it is a sweep.
--
-- st: a state of the net; n: a node; k: how many layers; count: how many nodes there are.
use Rattle.std.proofs.Common.{◌≡◌, ◌⊎◌, ℕ, zero, suc, ◌*◌, ◌<◌, Bool, true, false, List, [], ◌∷◌, ◌++◌, length, inl, inr, refl, ap, ◌∙◌, arith}
use Rattle.std.proofs.lemmas.Bool.{cases_eq}
use Rattle.prs_core.specs.Nets.{NetValue, IsNet}
use Rattle.env_script.specs.Scripts.{OfferValue}
use Rattle.env_script.specs.Runs.{RunState, move_enabled, IsRun, after, begin_at}
use Rattle.env_script.specs.OneLength.{AllSafe}
use Rattle.env_script.specs.Sweeps.{Sweeps, IsLayer, Layers}
use Rattle.env_script.proofs.MovesWithin.{move_in}
use Rattle.env_script.proofs.Overtakes.{Among, among, contained, run_on, safe_after}
use Rattle.width_check.specs.Processes.{TypedProgram}
use Rattle.net_compose.specs.Carries.{Carries}
use Rattle.net_compose.specs.Time.{KeepsTime, PassesInSweeps, PassesInLayers, HasLayers}
use Rattle.net_compose.proofs.TimeKept.{carried_safe}
use Rattle.call_map.proofs.LayerMoves.{layer_runs}

-- a node before others, or these alone
abbrev listed_if : Bool → ℕ → List ℕ → List ℕ
listed_if true n ns = n ∷ ns
listed_if false n ns = ns

module _ (net : NetValue) (script : List OfferValue) where
  -- the nodes below a number whose moves are enabled
  abbrev enabled_below : RunState → (count : ℕ) → List ℕ
  enabled_below st zero = []
  enabled_below st (suc k) = listed_if (move_enabled net script st k) k (enabled_below st k)

  below : (st : RunState) (count n : ℕ) → Among (enabled_below st count) n → n < count
  below st zero n i = absurd i
  below st (suc k) n i = by (move_enabled net script st k) (λ j. below st k n j) i
    where
      by : (b : Bool) → (Among (enabled_below st k) n → n < k) → Among (listed_if b k (enabled_below st k)) n → n < suc k
      by true less (inl e) = omega (arith, e)
      by true less (inr j) = let l = less j in omega (arith, l)
      by false less j = let l = less j in omega (arith, l)

  all_enabled : (st : RunState) (count : ℕ) → IsLayer net script st (enabled_below st count)
  all_enabled st zero = tt
  all_enabled st (suc k) = by (move_enabled net script st k) refl (all_enabled st k)
    where
      by : (b : Bool) → move_enabled net script st k ≡ b → IsLayer net script st (enabled_below st k)
          → IsLayer net script st (listed_if b k (enabled_below st k))
      by true e rest = (e, λ c. let l = below st k k (among (enabled_below st k) k c) in absurd (omega (arith, l)), rest)
      by false e rest = rest

  reached : (st : RunState) (count n : ℕ) → n < count → move_enabled net script st n ≡ true → Among (enabled_below st count) n
  reached st zero n less on = absurd (omega (arith, less))
  reached st (suc k) n less on = by (cases_eq k n) (λ l. reached st k n l on)
    where
      first : (b : Bool) → b ≡ true → k ≡ n → Among (listed_if b k (enabled_below st k)) n
      first true e same = inl same
      first false e same = absurd (cc e)

      later : (b : Bool) → Among (enabled_below st k) n → Among (listed_if b k (enabled_below st k)) n
      later true i = inr i
      later false i = i

      by : (k ≡ n) ⊎ (k ≡ n → ⊥) → (n < k → Among (enabled_below st k) n) → Among (listed_if (move_enabled net script st k) k (enabled_below st k)) n
      by (inl same) rest = first (move_enabled net script st k) (ap (move_enabled net script st) same ∙ on) same
      by (inr apart) rest = later (move_enabled net script st k) (rest (omega (arith, less, apart)))

  -- so many layers that are sweeps
  record Swept (st : RunState) (k : ℕ) : Type 0 where
    pub moves : List ℕ
    pub run : IsRun net script st moves
    pub layers : Layers net script st k moves
    pub sweeps : Sweeps net script st k moves

  swept : IsNet net → (k : ℕ) (st : RunState) → AllSafe net script st → Swept st k
  swept is zero st all = record { moves = []; run = tt; layers = refl; sweeps = tt }
  swept is (suc k) st all =
      let layer = enabled_below st (length net.first) in
      let one = all_enabled st (length net.first) in
      let run = layer_runs net script layer st all one in
      let rest = swept is k (after net st layer) (safe_after net script st layer all run) in
      record {
        moves = layer ++ rest.moves;
        run = run_on net script st layer rest.moves run rest.run;
        layers = (layer, rest.moves, refl, one, rest.layers);
        sweeps = (
          layer,
          rest.moves,
          refl,
          λ n on. contained layer n (reached st (length net.first) n (move_in net script st n is on) on),
          rest.sweeps,
        );
      }

pub layers_by_sweeps : (net : NetValue) (p : TypedProgram) (script : List OfferValue) (n sweeps : ℕ) → IsNet net → AllSafe net script (begin_at net net.first)
    → PassesInSweeps net p script n sweeps → PassesInLayers net p script n sweeps
layers_by_sweeps net p script n sweeps is safe passes =
    let r = swept net script is sweeps (begin_at net net.first) safe in
    (r.moves, r.layers, passes r.moves r.run r.sweeps)

-- and so for each number of rounds
pub layers_by_time : (net : NetValue) (p : TypedProgram) (sweeps : ℕ) → IsNet net → Carries net p → KeepsTime net p sweeps → HasLayers net p sweeps
layers_by_time net p sweeps is carries keeps script fits n =
    layers_by_sweeps net p script n (n * sweeps) is (carried_safe net p carries script fits) (λ moves run. keeps script fits moves run n)
