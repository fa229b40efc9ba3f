-- The net of a covered program whose assignments don't read their own target has the layers of its circuit of cells: in as many as this makes n rounds,
-- so does the net. These are n times `longest`, and what the rounds come to together.
--
-- P: the program; st: a state of the net; x: a state of the cells that it shows; n, m: nodes.
use Rattle.std.proofs.Common.{◌≡◌, ℕ, ◌*◌, inl, inr, List, [], ◌∷◌, ◌++◌, length, refl, sym, ap, ◌∙◌, subst}
use Rattle.prs_core.specs.Nets.{IsNet}
use Rattle.env_script.specs.Scripts.{OfferValue, IsScript}
use Rattle.env_script.specs.Runs.{RunState, history_at, begin_at, after, moved}
use Rattle.env_script.specs.Sweeps.{IsLayer, Layers}
use Rattle.env_script.proofs.Overtakes.{among, Among, after_on}
use Rattle.width_check.specs.Processes.{TypedProgram}
use Rattle.chp_meaning.specs.Fitting.{In}
use Rattle.chp_meaning.specs.Halves.{IsPlain}
use Rattle.chp_meaning.specs.Rounds.{rounds}
use Rattle.circuit_places.specs.Whole.{Whole, Node, cells_moved, first_cells}
use Rattle.circuit_places.proofs.LayerRounds.{cells_after}
use Rattle.round_time.specs.Longest.{longest}
use Rattle.round_time.specs.Sums.{rounds_sum}
use Rattle.circuit_time.proofs.Levels.{IsSpread, AreSpread, spread_behind}
use Rattle.circuit_ranks.proofs.Layers.{RoundsInLayers}
use Rattle.circuit_sums.proofs.Sums.{RoundsInSums}
use Rattle.net_compose.specs.Translation.{translation}
use Rattle.net_compose.specs.Carries.{Carries}
use Rattle.net_compose.specs.Time.{PassesInLayers, HasLayers, KeepsTime}
use Rattle.net_compose.proofs.FlatNet.{Given, Shows, number_of, Fine, enabled_is, after_move}
use Rattle.net_compose.proofs.PlainPasses.{starts, fine_node}
use Rattle.net_compose.proofs.TimeKept.{keeps_time_by_layers}
use Rattle.net_rounds.proofs.OneNumber.{one_number}

module _ (P : TypedProgram) (given : Given P) where
  abbrev numbers : List (Node P.body) → List ℕ
  numbers [] = []
  numbers (n ∷ ns) = number_of P given n ∷ numbers ns

  record Listed (ns : List (Node P.body)) (i : ℕ) : Type 0 where
    node : Node P.body
    among : In ns node
    is : number_of P given node ≡ i

  listed : (ns : List (Node P.body)) (i : ℕ) → Among (numbers ns) i → Listed ns i
  listed [] i a = absurd a
  listed (n ∷ ns) i (inl e) = record { node = n; among = inl refl; is = e }
  listed (n ∷ ns) i (inr a) = let r = listed ns i a in record { node = r.node; among = inr r.among; is = r.is }

  module _ (script : List OfferValue) where
    all_fine : (x : Whole P.body) (ns : List (Node P.body)) → IsSpread P script x ns → (m : Node P.body) → In ns m → Fine P given m
    all_fine x [] l m i = absurd i
    all_fine x (n ∷ ns) l m (inl e) = subst (λ z. Fine P given z) e (fine_node P given n l.1)
    all_fine x (n ∷ ns) l m (inr i) = all_fine x ns l.3 m i

    is_layer : (st : RunState) (x : Whole P.body) → Shows P given st x → (ns : List (Node P.body)) → IsSpread P script x ns
        → IsLayer (translation P) script st (numbers ns)
    is_layer st x s [] l = tt
    is_layer st x s (n ∷ ns) l =
        let f = fine_node P given n l.1 in (
          enabled_is P given st x s script n f ∙ l.0,
          λ there. alone (listed ns (number_of P given n) (among (numbers ns) (number_of P given n) there)) f,
          is_layer st x s ns l.3,
        )
      where
        alone : Listed ns (number_of P given n) → Fine P given n → ⊥
        alone r f = l.2 r.node r.among (one_number P given n r.node f (all_fine x ns l.3 r.node r.among) (sym r.is))

    layer_shows : (st : RunState) (x : Whole P.body) → Shows P given st x → (y : Whole P.body) (ns : List (Node P.body)) → IsSpread P script y ns
        → Shows P given (after (translation P) st (numbers ns)) (cells_after P x ns)
    layer_shows st x s y [] l = s
    layer_shows st x s y (n ∷ ns) l = layer_shows (moved (translation P) st (number_of P given n)) (cells_moved P x n)
        (after_move P given st x s n (fine_node P given n l.1)) y ns l.3

    abbrev pub all_numbers : List (List (Node P.body)) → List ℕ
    all_numbers [] = []
    all_numbers (l ∷ ls) = numbers l ++ all_numbers ls

    pub are_layers : (st : RunState) (x : Whole P.body) → Shows P given st x → (ls : List (List (Node P.body))) → AreSpread P script x ls
        → Layers (translation P) script st (length ls) (all_numbers ls)
    are_layers st x s [] a = refl
    are_layers st x s (l ∷ ls) a = (
      numbers l,
      all_numbers ls,
      refl,
      is_layer st x s l a.0,
      are_layers (after (translation P) st (numbers l)) (cells_after P x l) (layer_shows st x s x l a.0) ls a.1,
    )

    pub layers_show : (st : RunState) (x : Whole P.body) → Shows P given st x → (ls : List (List (Node P.body))) → AreSpread P script x ls
        → Shows P given (after (translation P) st (all_numbers ls)) (spread_behind P x ls)
    layers_show st x s [] a = s
    layers_show st x s (l ∷ ls) a = subst (λ (z : RunState). Shows P given z (spread_behind P (cells_after P x l) ls))
        (sym (after_on (translation P) script st (numbers l) (all_numbers ls)))
        (layers_show (after (translation P) st (numbers l)) (cells_after P x l) (layer_shows st x s x l a.0) ls a.1)

-- what so many layers of cells have passed
spread_passes : (P : TypedProgram) → Given P → (script : List OfferValue) (n k : ℕ) (ls : List (List (Node P.body))) → length ls ≡ k
    → AreSpread P script (first_cells P) ls
    → ((c : ℕ) → (rest : List ℕ) × (history_at (spread_behind P (first_cells P) ls).histories c ≡ history_at (rounds P script n).histories c ++ rest))
    → PassesInLayers (translation P) P script n k
spread_passes P given script n k ls long spread passed =
    let st = begin_at (translation P) (translation P).first in
    let moves = all_numbers P given script ls in
    let shows = layers_show P given script st (first_cells P) (starts P given) ls spread in (
      moves,
      subst (λ (j : ℕ). Layers (translation P) script st j moves) long (are_layers P given script st (first_cells P) (starts P given) ls spread),
      λ c. let z = passed c in (z.0, ap (λ hs. history_at hs c) shows.histories ∙ z.1),
    )

pub longest_layers : RoundsInLayers → (P : TypedProgram) → Given P → IsPlain P → HasLayers (translation P) P (longest P)
longest_layers law P given is script fits n = let r = law P is script fits n in spread_passes P given script n (n * longest P) r.0 r.1 r.2 r.3

pub sums_layers : RoundsInSums → (P : TypedProgram) → Given P → IsPlain P → (script : List OfferValue) → IsScript P.channels script → (n : ℕ)
    → PassesInLayers (translation P) P script n (rounds_sum P script n)
sums_layers law P given is script fits n = let r = law P is script fits n in spread_passes P given script n (rounds_sum P script n) r.0 r.1 r.2 r.3

pub keeps_longest : RoundsInLayers → (P : TypedProgram) → Given P → IsPlain P → IsNet (translation P) → Carries (translation P) P
    → KeepsTime (translation P) P (longest P)
keeps_longest law P given is net carries = keeps_time_by_layers (translation P) P (longest P) net carries (longest_layers law P given is)
