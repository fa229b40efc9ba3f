-- A completion tree keeps its contract.
use Rattle.std.proofs.Common.{◌≡◌, ℕ, ◌<◌, Bool, true, false, List, [], ◌∷◌, length, map, All, Contains, refl, sym, ap, subst, ◌∙◌, arith, ◌⊎◌, inl, inr}
use Rattle.std.specs.Prelude.{not, ◌&&◌, if◌then◌else◌}
use Rattle.std.specs.List.{list_all}
use Rattle.std.proofs.lemmas.List.Elements.{All-contains, All-from_recursion, Contains-append_right}
use Rattle.prs_core.specs.Parts.{Owned, Part, Wire, Moment, IsFirstState, IsMove, Keeps, wire, fires, may_move, all_low}
use Rattle.prs_core.specs.Keeping.{kept_by}
use Rattle.prs_core.specs.Turning.{among_cases, none_among, among_mapped, mapped_among}
use Rattle.cell_parallel.specs.Trees.{tree_top, tree_owned}
use Rattle.cell_parallel.specs.TreeParts.{AreOutside, IsOutsideTree, IsTreeSettled, TreeMove, by_rule, of_leaf, Settles, tree_part}
use Rattle.cell_parallel.proofs.Joins.{join_of, some_joins}
use Rattle.cell_parallel.proofs.Settling.{settles}

both_true : (a b : Bool) → a ≡ true → b ≡ true → (a && b) ≡ true
both_true true b p q = q
both_true false b p q = absurd (cc p)

first_true : (a b : Bool) → (a && b) ≡ true → a ≡ true
first_true true b h = refl
first_true false b h = absurd (cc h)

second_true : (a b : Bool) → (a && b) ≡ true → b ≡ true
second_true true b h = h
second_true false b h = absurd (cc h)

low_from_not : (b : Bool) → not b ≡ true → b ≡ false
low_from_not false h = refl
low_from_not true h = absurd (cc h)

low_at : (v : ℕ → Bool) (ns : List ℕ) (n : ℕ) → all_low v ns ≡ true → Contains ns n → v n ≡ false
low_at v [] n h among = absurd (none_among n among)
low_at v (k ∷ ns) n h among = by (among_cases k ns n among) (low_at v ns n (second_true (not (v k)) (all_low v ns) h))
  where
    by : (k ≡ n) ⊎ Contains ns n → (Contains ns n → v n ≡ false) → v n ≡ false
    by (inl e) rest = ap v (sym e) ∙ low_from_not (v k) (first_true (not (v k)) (all_low v ns) h)
    by (inr here) rest = rest here

each_low : (v : ℕ → Bool) (ns : List ℕ) → ((n : ℕ) → Contains ns n → v n ≡ false) → all_low v ns ≡ true
each_low v [] f = refl
each_low v (n ∷ ns) f = both_true (not (v n)) (all_low v ns) (ap not (f n (0, omega arith, refl)))
    (each_low v ns (λ k among. f k (Contains-append_right (n ∷ []) ns k among)))

each_high : (v : ℕ → Bool) (ns : List ℕ) → ((n : ℕ) → Contains ns n → v n ≡ true) → list_all v ns ≡ true
each_high v [] f = refl
each_high v (n ∷ ns) f = both_true (v n) (list_all v ns) (f n (0, omega arith, refl))
    (each_high v ns (λ k among. f k (Contains-append_right (n ∷ []) ns k among)))

module _ (leaves : List ℕ) (from : ℕ) (some : 0 < length leaves) (outside : AreOutside leaves from) where
  abbrev top : ℕ
  top = tree_top leaves from

  abbrev part : Part
  part = tree_part leaves from

  known : Settles leaves from
  known = settles leaves from some outside

  abbrev leaf_wire : ℕ → Wire
  leaf_wire leaf = wire leaf (λ m. not (m.value top)) (λ m. m.value top)

  first : (v : ℕ → Bool) → IsFirstState part v → IsTreeSettled leaves from v
  first v is = known.first v (λ o among. low o among ∙ sym (top_low o among))
    where
      low : (o : Owned) → Contains (tree_owned leaves from) o → v o.node ≡ false
      low o among = low_at v (map (λ (x : Owned). x.node) (tree_owned leaves from)) o.node is.own
          (mapped_among (λ (x : Owned). x.node) (tree_owned leaves from) o among)

      top_low : (o : Owned) → Contains (tree_owned leaves from) o → v top ≡ false
      top_low o among =
          let (j, here, same) = join_of leaves from o among in
          let (u, there, at) = known.top (some_joins leaves from j here) in
          ap v (sym at) ∙ low u there

  leaf_value : (m : Moment) (leaf : ℕ) → may_move m (leaf_wire leaf) ≡ true → m.value leaf ≡ m.value top
  leaf_value m leaf may = by (m.value leaf) (m.value top) may
    where
      by : (l t : Bool) → (if l then t else not t) ≡ true → l ≡ t
      by true t h = sym h
      by false true h = absurd (cc h)
      by false false h = refl

  leaf_may : (m : Moment) (leaf : ℕ) → m.value leaf ≡ m.value top → may_move m (leaf_wire leaf) ≡ true
  leaf_may m leaf e = by (m.value leaf) (m.value top) e
    where
      by : (l t : Bool) → l ≡ t → (if l then t else not t) ≡ true
      by true t h = sym h
      by false true h = absurd (cc h)
      by false false h = refl

  move_of : (m : Moment) (node : ℕ) → IsMove part m node → TreeMove leaves from m.value node
  move_of m node (inl own) = by_rule own.o own.among own.enabled own.at
  move_of m node (inr outer) =
      let (leaf, here, is) = among_mapped leaf_wire leaves outer.w outer.among in
      let at : node ≡ leaf = outer.at ∙ ap (λ (w : Wire). w.node) (sym is) in
      let may : may_move m (leaf_wire leaf) ≡ true = subst (λ (w : Wire). may_move m w ≡ true) (sym is) outer.may in
      subst (TreeMove leaves from m.value) (sym at) (of_leaf (All-contains (IsOutsideTree leaves from) leaves leaf outside here) (leaf_value m leaf may))

  promised : (m : Moment) → IsTreeSettled leaves from m.value → (o : Owned) → Contains (tree_owned leaves from) o → fires m.value o ≡ true → (w : Wire) →
      Contains part.promises w → w.node ≡ o.node → may_move m w ≡ true
  promised m s o among f w here at = by (among_cases (wire top (λ m. list_all m.value leaves) (λ m. all_low m.value leaves)) [] w here)
    where
      turn : (b : Bool) → ((n : ℕ) → Contains leaves n → m.value n ≡ not b) → (if b then all_low m.value leaves else list_all m.value leaves) ≡ true
      turn true all = each_low m.value leaves all
      turn false all = each_high m.value leaves all

      by : (wire top (λ m. list_all m.value leaves) (λ m. all_low m.value leaves) ≡ w) ⊎ Contains [] w → may_move m w ≡ true
      by (inr none) = absurd (none_among w none)
      by (inl is) =
          let all = known.turns m.value o s among f (sym at ∙ ap (λ (x : Wire). x.node) (sym is)) in
          subst (λ (x : Wire). may_move m x ≡ true) is
          (turn (m.value top) (λ n there. All-contains (λ leaf. m.value leaf ≡ not (m.value top)) leaves n all there))

  lows : (v : ℕ → Bool) → IsTreeSettled leaves from v → all_low v (top ∷ leaves) ≡ true →
      all_low v (map (λ (o : Owned). o.node) (tree_owned leaves from)) ≡ true
  lows v s h =
      each_low v (map (λ (o : Owned). o.node) (tree_owned leaves from)) (λ n among.
      let (o, here, is) = among_mapped (λ (o : Owned). o.node) (tree_owned leaves from) n among in
      ap v (sym is) ∙ known.rests v s (low_from_not (v top) (first_true (not (v top)) (all_low v leaves) h))
      (All-low leaves (second_true (not (v top)) (all_low v leaves) h)) o here)
    where
      each : (ns : List ℕ) → all_low v ns ≡ true → Rattle.std.specs.List.AllByRecursion (λ n. v n ≡ false) ns
      each [] h = tt
      each (n ∷ ns) h = (low_from_not (v n) (first_true (not (v n)) (all_low v ns) h), each ns (second_true (not (v n)) (all_low v ns) h))

      All-low : (ns : List ℕ) → all_low v ns ≡ true → All (λ n. v n ≡ false) ns
      All-low ns h = All-from_recursion (λ n. v n ≡ false) ns (each ns h)

  pub keeps : Keeps part
  keeps = kept_by part (λ m. IsTreeSettled leaves from m.value) first (λ m node s move. known.stays m.value node s (move_of m node move)) (λ m s. record {
    promised = promised m s;
    firm = λ o among f node move ne. known.firm m.value o node s among f (move_of m node move) ne;
    apart = λ o among. known.apart m.value o among;
    lows = lows m.value s;
    bits = λ h. refl;
    waits = λ still.
        let (leaf, here, is) = known.waits m.value s still in
        inl (leaf_wire leaf, mapped_among leaf_wire leaves leaf here, leaf_may m leaf is);
  })
