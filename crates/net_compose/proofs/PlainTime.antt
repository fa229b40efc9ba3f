-- The net of a covered program whose assignments don't read their own target keeps time: layers of moves of the cells are layers
-- of moves of the net.
--
-- P: the program; st: a state of the net; x: a state of the cells that it shows; n, m: nodes.
use Rattle.std.proofs.Common.{◌≡◌, ◌≢◌, ℕ, suc, ◌*◌, ◌<◌, ◌≤◌, ◌⊎◌, inl, inr, Bool, true, false, List, [], ◌∷◌, ◌++◌, length, refl, sym, ap, ◌∙◌, subst, arith, get_or-set_same}
use Rattle.std.specs.Prelude.{not}
use Rattle.std.proofs.lemmas.Bool.{cases_lt}
use Rattle.prs_core.specs.Nets.{IsNet}
use Rattle.prs_core.specs.Moves.{high}
use Rattle.env_script.specs.Scripts.{OfferValue}
use Rattle.env_script.specs.Runs.{RunState, history_at, begin_at, after, moved}
use Rattle.env_script.specs.Sweeps.{IsLayer, Layers}
use Rattle.env_script.proofs.Overtakes.{among, Among, after_on}
use Rattle.width_check.specs.Processes.{TypedProgram}
use Rattle.handshake_expand.specs.Layout.{nodes_of}
use Rattle.chp_meaning.specs.Fitting.{In}
use Rattle.chp_meaning.specs.Halves.{IsPlain}
use Rattle.circuit_places.specs.Bounds.{circuit_most}
use Rattle.circuit_places.specs.Whole.{Whole, Node, go_node, own_node, rail_node, ack_node, bit_node, wrote_node, joint_node, wires_seen, enabled, cells_moved, first_cells}
use Rattle.circuit_places.proofs.KeptValues.{Rising, value_of, guarded_now, kept_value}
use Rattle.circuit_places.proofs.LayerRounds.{IsCellLayer, cells_after}
use Rattle.circuit_places.proofs.Settle.{AreCellLayers, cells_behind, CellsKeepTime}
use Rattle.net_compose.specs.Translation.{translation}
use Rattle.net_compose.specs.Carries.{Carries}
use Rattle.net_compose.specs.Time.{HasLayers, KeepsTime, sweeps_for_round}
use Rattle.net_compose.proofs.FlatBlocks.{a_mark, a_joint}
use Rattle.net_compose.proofs.FlatNet.{Given, Shows, number_of, Fine, node_tells, enabled_is, past_end, after_move}
use Rattle.net_compose.proofs.PlainPasses.{starts, fine_node}
use Rattle.net_compose.proofs.TimeKept.{keeps_time_by_layers, keeps_more}

never : (b : Bool) → not b ≡ b → ⊥
never true e = cc e
never false e = cc e

module _ (P : TypedProgram) (given : Given P) where
  -- what a node of the net shows
  shown_value : (st : RunState) (x : Whole P.body) (s : Shows P given st x) (n : Node P.body) → Fine P given n → Rising n
      → high st.values (number_of P given n) ≡ value_of P x n
  shown_value st x s (own_node p) f k = (node_tells P given st x s (own_node p) f).now ∙ guarded_now P.body (wires_seen P x.wires) x.go x.root p k
  shown_value st x s (ack_node c) f k = s.ack c f
  shown_value st x s (wrote_node v i) f k = s.block v (a_mark i) f.0 f.1
  shown_value st x s (joint_node v i) f k = s.block v (a_joint i) f.0 f.1
  shown_value st x s go_node f k = absurd k
  shown_value st x s (rail_node l i one) f k = absurd k
  shown_value st x s (bit_node v i one) f k = absurd k

  abbrev numbers : List (Node P.body) → List ℕ
  numbers [] = []
  numbers (n ∷ ns) = number_of P given n ∷ numbers ns

  record Listed (ns : List (Node P.body)) (i : ℕ) : Type 0 where
    node : Node P.body
    among : In ns node
    is : number_of P given node ≡ i

  listed : (ns : List (Node P.body)) (i : ℕ) → Among (numbers ns) i → Listed ns i
  listed [] i a = absurd a
  listed (n ∷ ns) i (inl e) = record { node = n; among = inl refl; is = e }
  listed (n ∷ ns) i (inr a) = let r = listed ns i a in record { node = r.node; among = inr r.among; is = r.is }

  module _ (script : List OfferValue) where
    numbered : (st : RunState) (x : Whole P.body) (s : Shows P given st x) (n : Node P.body) → Fine P given n → enabled P script x n ≡ true
        → number_of P given n < nodes_of P
    numbered st x s n f e = by (cases_lt (number_of P given n) (nodes_of P))
      where
        by : (number_of P given n < nodes_of P) ⊎ (nodes_of P ≤ number_of P given n) → number_of P given n < nodes_of P
        by (inl less) = less
        by (inr far) = absurd (cc (past_end P given st x s script (number_of P given n) far, enabled_is P given st x s script n f, e))

    -- two nodes have two numbers, where the one has a value that the other doesn't change
    apart : (st : RunState) (x : Whole P.body) (s : Shows P given st x) (n m : Node P.body) → Fine P given n → Fine P given m → n ≢ m → Rising n
        → number_of P given n < nodes_of P → number_of P given m ≡ number_of P given n → ⊥
    apart st x s n m f g ne k less same =
        let i = number_of P given n in
        let y = moved (translation P) st (number_of P given m) in
        let a : high y.values i ≡ value_of P (cells_moved P x m) n = shown_value y (cells_moved P x m) (after_move P given st x s m g) n f k in
        let b : high st.values i ≡ value_of P x n = shown_value st x s n f k in
        let c = kept_value P x n m ne k in
        let d : high y.values i ≡ not (high st.values i) = ap (λ j. high (moved (translation P) st j).values i) same
        ∙ get_or-set_same st.values i (not (high st.values i)) false (omega (arith, less, s.count)) in
        never (high st.values i) (sym d ∙ (a ∙ (c ∙ sym b)))

    is_layer : (st : RunState) (x : Whole P.body) → Shows P given st x → (ns : List (Node P.body)) → IsCellLayer P script x ns
        → IsLayer (translation P) script st (numbers ns)
    is_layer st x s [] l = tt
    is_layer st x s (n ∷ ns) l =
        let f = fine_node P given n l.1 in (
          enabled_is P given st x s script n f ∙ l.0,
          λ there. alone (listed ns (number_of P given n) (among (numbers ns) (number_of P given n) there)) f,
          is_layer st x s ns l.3,
        )
      where
        there_fine : (ns : List (Node P.body)) → IsCellLayer P script x ns → (m : Node P.body) → In ns m → Fine P given m
        there_fine [] l m i = absurd i
        there_fine (q ∷ qs) l m (inl e) = subst (λ z. Fine P given z) e (fine_node P given q l.1)
        there_fine (q ∷ qs) l m (inr i) = there_fine qs l.3 m i

        alone : Listed ns (number_of P given n) → Fine P given n → ⊥
        alone r f = let z = l.2 r.node r.among in apart st x s n r.node f (there_fine ns l.3 r.node r.among) z.0 z.1 (numbered st x s n f l.0) r.is

    layer_shows : (st : RunState) (x : Whole P.body) → Shows P given st x → (y : Whole P.body) (ns : List (Node P.body)) → IsCellLayer P script y ns
        → Shows P given (after (translation P) st (numbers ns)) (cells_after P x ns)
    layer_shows st x s y [] l = s
    layer_shows st x s y (n ∷ ns) l = layer_shows (moved (translation P) st (number_of P given n)) (cells_moved P x n)
        (after_move P given st x s n (fine_node P given n l.1)) y ns l.3

    abbrev all_numbers : List (List (Node P.body)) → List ℕ
    all_numbers [] = []
    all_numbers (l ∷ ls) = numbers l ++ all_numbers ls

    are_layers : (st : RunState) (x : Whole P.body) → Shows P given st x → (ls : List (List (Node P.body))) → AreCellLayers P script x ls
        → Layers (translation P) script st (length ls) (all_numbers ls)
    are_layers st x s [] a = refl
    are_layers st x s (l ∷ ls) a = (
      numbers l,
      all_numbers ls,
      refl,
      is_layer st x s l a.0,
      are_layers (after (translation P) st (numbers l)) (cells_after P x l) (layer_shows st x s x l a.0) ls a.1,
    )

    layers_show : (st : RunState) (x : Whole P.body) → Shows P given st x → (ls : List (List (Node P.body))) → AreCellLayers P script x ls
        → Shows P given (after (translation P) st (all_numbers ls)) (cells_behind P x ls)
    layers_show st x s [] a = s
    layers_show st x s (l ∷ ls) a = subst (λ (z : RunState). Shows P given z (cells_behind P (cells_after P x l) ls))
        (sym (after_on (translation P) script st (numbers l) (all_numbers ls)))
        (layers_show (after (translation P) st (numbers l)) (cells_after P x l) (layer_shows st x s x l a.0) ls a.1)

pub plain_layers : CellsKeepTime → (P : TypedProgram) → Given P → IsPlain P → HasLayers (translation P) P (suc (circuit_most P))
plain_layers law P given is script fits n =
    let st = begin_at (translation P) (translation P).first in
    let r = law P is script fits n in
    let ls = r.0 in
    let moves = all_numbers P given script ls in
    let shows = layers_show P given script st (first_cells P) (starts P given) ls r.2 in (
      moves,
      subst (λ (k : ℕ). Layers (translation P) script st k moves) r.1 (are_layers P given script st (first_cells P) (starts P given) ls r.2),
      λ k. let z = r.3 k in (z.0, ap (λ hs. history_at hs k) shows.histories ∙ z.1),
    )

pub plain_keeps_time : CellsKeepTime → (P : TypedProgram) → Given P → IsPlain P → IsNet (translation P) → Carries (translation P) P
    → circuit_most P ≤ 2 * nodes_of P → KeepsTime (translation P) P (sweeps_for_round P)
plain_keeps_time law P given is net carries few = keeps_more (translation P) P (suc (circuit_most P)) (sweeps_for_round P) (omega (arith, few))
    (keeps_time_by_layers (translation P) P (suc (circuit_most P)) net carries (plain_layers law P given is))
