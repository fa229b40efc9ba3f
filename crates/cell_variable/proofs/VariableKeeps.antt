-- A variable keeps its contract, of any width.
use Rattle.std.proofs.Common.{◌≡◌, ◌≢◌, ℕ, ◌+◌, ◌*◌, ◌≤◌, ◌<◌, Bool, true, false, List, [], ◌∷◌, ◌++◌, length, map, All, Contains, refl, sym, ap, subst, ◌∙◌, arith, ◌⊎◌, inl, inr}
use Rattle.std.specs.Prelude.{not, ◌&&◌, if◌then◌else◌}
use Rattle.std.specs.List.{list_all, flat_map}
use Rattle.std.proofs.lemmas.Bool.{cases_eq, cases_lt, or_cases}
use Rattle.std.proofs.lemmas.List.Elements.{All-contains, Contains-get_or, Contains-append_left, Contains-append_right, Contains-append_cases}
use Rattle.prs_core.specs.Moves.{guard_holds}
use Rattle.prs_core.specs.Pairs.{rails_of}
use Rattle.prs_core.specs.Parts.{Owned, Part, Wire, Moment, IsFirstState, IsMove, IsKept, Keeps, moment_after, owned, wire, fires, turned, may_move, all_low, is_valid}
use Rattle.prs_core.specs.Keeping.{kept_by}
use Rattle.prs_core.specs.Turning.{turned_here, turned_apart, among_cases, none_among, among_mapped, mapped_among}
use Rattle.prs_core.specs.Deciding.{left_of, right_of, both_of}
use Rattle.cell_parallel.specs.Trees.{tree_owned, tree_rules}
use Rattle.cell_parallel.specs.TreeParts.{IsOutsideTree, AreOutside, IsTreeSettled, TreeMove, by_rule, of_leaf, elsewhere, Settles}
use Rattle.cell_variable.specs.Variables.{Bit, bit_at, bits_from, kept_rail, bit_written, bit_owned, written_leaves, all_written, variable_owned}
use Rattle.cell_variable.specs.VariableParts.{has_written, bit_promises, bit_allows, variable_part}
use Rattle.cell_variable.proofs.Filled.{leaves_length}
use Rattle.cell_variable.proofs.BitTable as table
use Rattle.cell_variable.proofs.BitTable.{Role, rail_t, rail_f, write_t, write_f, written, turn, may, legal, is_own, is_other, ready, both_turned, acknowledged}
use Rattle.cell_variable.proofs.BitPlaces.{IsBit, place, now, bits_among, among_bits, leaf_bit, bit_leaf, low_writes, writes_low, valid_bits, bits_valid, all_written_bits, Five, carry, five_at, five_beside, IsBeside, not_before}

low_from_not : (b : Bool) → not b ≡ true → b ≡ false
low_from_not false h = refl
low_from_not true h = absurd (cc h)

all_from : {X : Type 0} (P : X → Type 0) (xs : List X) → ((x : X) → Contains xs x → P x) → All P xs
all_from P xs f k d within = f _ (Contains-get_or xs k d within)

low_at : (v : ℕ → Bool) (ns : List ℕ) (n : ℕ) → all_low v ns ≡ true → Contains ns n → v n ≡ false
low_at v [] n h among = absurd (none_among n among)
low_at v (k ∷ ns) n h among = by (among_cases k ns n among) (low_at v ns n (right_of (not (v k)) (all_low v ns) h))
  where
    by : (k ≡ n) ⊎ Contains ns n → (Contains ns n → v n ≡ false) → v n ≡ false
    by (inl e) rest = ap v (sym e) ∙ low_from_not (v k) (left_of (not (v k)) (all_low v ns) h)
    by (inr here) rest = rest here

each_low : (v : ℕ → Bool) (ns : List ℕ) → ((n : ℕ) → Contains ns n → v n ≡ false) → all_low v ns ≡ true
each_low v [] f = refl
each_low v (n ∷ ns) f = both_of (not (v n)) (all_low v ns) (ap not (f n (0, omega arith, refl)))
    (each_low v ns (λ k among. f k (Contains-append_right (n ∷ []) ns k among)))

module _ (width from : ℕ) (some : 1 ≤ width) (settles : (leaves : List ℕ) (first : ℕ) → 0 < length leaves → AreOutside leaves first →
    Settles leaves first) where
  abbrev part : Part
  part = variable_part width from

  abbrev ack : ℕ
  ack = all_written width from

  abbrev leaves : List ℕ
  leaves = written_leaves width from

  abbrev tree_from : ℕ
  tree_from = from + 5 * width

  abbrev tree : List Owned
  tree = tree_owned leaves tree_from

  bit_within : (s : ℕ) → IsBit width from s → (from ≤ s) × (s + 5 ≤ tree_from)
  bit_within s (i, less, at) = (omega (arith, at), omega (arith, at, less))

  behind : (o : Owned) → Contains tree o → tree_from ≤ o.node
  behind o among = not_before tree_from (tree_rules leaves tree_from) o among

  outside : (node : ℕ) → node < tree_from → IsOutsideTree leaves tree_from node
  outside node before = all_from (λ (o : Owned). o.node ≢ node) tree (λ o among e. let far = behind o among in omega (arith, before, far, e))

  are_outside : AreOutside leaves tree_from
  are_outside = all_from (IsOutsideTree leaves tree_from) leaves (λ leaf among.
      let (s, bit, at) = leaf_bit width from leaf among in
      let within = bit_within s bit in
      outside leaf (omega (arith, at, within.1)))

  known : Settles leaves tree_from
  known = settles leaves tree_from (omega (arith, leaves_length width from)) are_outside

  -- the acknowledge is the one node that says that a bit is written, or a node of the tree
  ack_place : ((width ≡ 1) × (ack ≡ from + 4)) ⊎ (tree_from ≤ ack)
  ack_place = by (cases_eq width 1)
    where
      alone : (w : ℕ) → w ≡ 1 → all_written w from ≡ from + 4
      alone w e = subst (λ k. all_written k from ≡ from + 4) (sym e) refl

      by : (width ≡ 1) ⊎ (width ≢ 1) → ((width ≡ 1) × (ack ≡ from + 4)) ⊎ (tree_from ≤ ack)
      by (inl e) = inl (e, alone width e)
      by (inr ne) =
          let (o, among, at) = known.top (omega (arith, leaves_length width from, some, ne)) in
          let far = behind o among in
          inr (omega (arith, far, at))

  -- at a bit it can only be the node that says that it is written, of the one bit
  ack_beside : (s j : ℕ) → IsBit width from s → j < 4 → ack ≢ s + j
  ack_beside s j (i, less, at) few e = by ack_place
    where
      by : ((width ≡ 1) × (ack ≡ from + 4)) ⊎ (tree_from ≤ ack) → ⊥
      by (inl (one, is)) = omega (arith, one, is, at, less, few, e)
      by (inr far) = omega (arith, far, at, less, few, e)

  one_bit : (s : ℕ) → IsBit width from s → ack ≡ s + 4 → width ≡ 1
  one_bit s (i, less, at) e = by ack_place
    where
      by : ((width ≡ 1) × (ack ≡ from + 4)) ⊎ (tree_from ≤ ack) → width ≡ 1
      by (inl (one, is)) = one
      by (inr far) = absurd (omega (arith, far, at, less, e))

  same_bit : (s t : ℕ) → IsBit width from s → IsBit width from t → width ≡ 1 → s ≡ t
  same_bit s t (i, less, at) (j, within, is) one = omega (arith, less, within, one, at, is)

  -- two bits are one or lie beside each other
  bits_apart : (s t : ℕ) → IsBit width from s → IsBit width from t → s ≢ t → (k : Role) → IsBeside t (place k s)
  bits_apart s t (i, less, at) (j, within, is) ne k = by (cases_lt i j) k
    where
      by : (i < j) ⊎ (j ≤ i) → (k : Role) → IsBeside t (place k s)
      by (inl before) rail_t = inl (omega (arith, at, is, before))
      by (inl before) rail_f = inl (omega (arith, at, is, before))
      by (inl before) write_t = inl (omega (arith, at, is, before))
      by (inl before) write_f = inl (omega (arith, at, is, before))
      by (inl before) written = inl (omega (arith, at, is, before))
      by (inr moment_after) k = inr (past (cases_eq i j) k)
        where
          past : (i ≡ j) ⊎ (i ≢ j) → (k : Role) → t + 5 ≤ place k s
          past (inl e) k = absurd (ne (omega (arith, at, is, e)))
          past (inr other) rail_t = omega (arith, at, is, moment_after, other)
          past (inr other) rail_f = omega (arith, at, is, moment_after, other)
          past (inr other) write_t = omega (arith, at, is, moment_after, other)
          past (inr other) write_f = omega (arith, at, is, moment_after, other)
          past (inr other) written = omega (arith, at, is, moment_after, other)

  -- a move is at a bit, or in the tree
  data Moved (v : ℕ → Bool) (node : ℕ) : Type 0 where
    at_bit : (s : ℕ) → IsBit width from s → (k : Role) → may k (now v (v ack) s) ≡ true → node ≡ place k s → Moved v node
    in_tree : (o : Owned) → Contains tree o → fires v o ≡ true → node ≡ o.node → Moved v node

  -- a node of the part's own is at a bit or in the tree
  data Mine (o : Owned) : Type 0 where
    of_bit : (s : ℕ) → IsBit width from s → (k : Role) → is_own k ≡ true → o.node ≡ place k s → ((v : ℕ → Bool) (b : Bool) → fires v o ≡ may k (now v b s)) →
        ((v : ℕ → Bool) (b : Bool) → (guard_holds v o.rules.up && guard_holds v o.rules.down) ≡ table.pulled k (now v b s)) → Mine o
    of_tree : Contains tree o → Mine o

  mine : (o : Owned) → Contains (variable_owned width from) o → Mine o
  mine o among = by (Contains-append_cases (flat_map bit_owned (bits_from width from)) tree o among)
    where
      at_one : (s : ℕ) → IsBit width from s → Contains (bit_owned (bit_at s)) o → Mine o
      at_one s bit here = first (among_cases (owned s (kept_rail (s + 2) (s + 1) (s + 3))) (owned (s + 1) (kept_rail (s + 3) s (s + 2))
          ∷ owned (s + 4) (bit_written (bit_at s)) ∷ []) o here)
        where
          third : (owned (s + 4) (bit_written (bit_at s)) ≡ o) ⊎ Contains [] o → Mine o
          third (inl e) = subst Mine e (of_bit s bit written refl refl (λ v b. refl) (λ v b. refl))
          third (inr none) = absurd (none_among o none)

          second : (owned (s + 1) (kept_rail (s + 3) s (s + 2)) ≡ o) ⊎ Contains (owned (s + 4) (bit_written (bit_at s)) ∷ []) o → Mine o
          second (inl e) = subst Mine e (of_bit s bit rail_f refl refl (λ v b. refl) (λ v b. refl))
          second (inr rest) = third (among_cases (owned (s + 4) (bit_written (bit_at s))) [] o rest)

          first : (owned s (kept_rail (s + 2) (s + 1) (s + 3)) ≡ o) ⊎ Contains (owned (s + 1) (kept_rail (s + 3) s (s + 2))
              ∷ owned (s + 4) (bit_written (bit_at s)) ∷ []) o → Mine o
          first (inl e) = subst Mine e (of_bit s bit rail_t refl refl (λ v b. refl) (λ v b. refl))
          first (inr rest) = second (among_cases (owned (s + 1) (kept_rail (s + 3) s (s + 2))) (owned (s + 4) (bit_written (bit_at s)) ∷ []) o rest)

      by : Contains (flat_map bit_owned (bits_from width from)) o ⊎ Contains tree o → Mine o
      by (inl bits) =
          let (s, bit, here) = bits_among bit_owned width from o bits in
          at_one s bit here
      by (inr there) = of_tree there

  own_move : (v : ℕ → Bool) (o : Owned) (node : ℕ) → Mine o → fires v o ≡ true → node ≡ o.node → Moved v node
  own_move v o node (of_bit s bit k own at same pulled) f here = at_bit s bit k (sym (same v (v ack)) ∙ f) (here ∙ at)
  own_move v o node (of_tree among) f here = in_tree o among f here

  abbrev write_wire_t : ℕ → Wire
  write_wire_t s = wire (s + 2) (λ m. all_low m.value (ack ∷ (s + 2) ∷ (s + 3) ∷ [])) (λ m. m.value ack)

  abbrev write_wire_f : ℕ → Wire
  write_wire_f s = wire (s + 3) (λ m. all_low m.value (ack ∷ (s + 2) ∷ (s + 3) ∷ [])) (λ m. m.value ack)

  outer_move : (m : Moment) (w : Wire) (node : ℕ) → Contains part.allows w → may_move m w ≡ true → node ≡ w.node → Moved m.value node
  outer_move m w node among f here =
      let (s, bit, there) = bits_among (bit_allows ack) width from w among in
      first s bit (among_cases (write_wire_t s) (write_wire_f s ∷ []) w there)
    where
      second : (s : ℕ) → IsBit width from s → (write_wire_f s ≡ w) ⊎ Contains [] w → Moved m.value node
      second s bit (inl e) = at_bit s bit write_f (subst (λ (x : Wire). may_move m x ≡ true) (sym e) f) (here ∙ ap (λ (x : Wire). x.node) (sym e))
      second s bit (inr none) = absurd (none_among w none)

      first : (s : ℕ) → IsBit width from s → (write_wire_t s ≡ w) ⊎ Contains (write_wire_f s ∷ []) w → Moved m.value node
      first s bit (inl e) = at_bit s bit write_t (subst (λ (x : Wire). may_move m x ≡ true) (sym e) f) (here ∙ ap (λ (x : Wire). x.node) (sym e))
      first s bit (inr rest) = second s bit (among_cases (write_wire_f s) [] w rest)

  moved : (m : Moment) (node : ℕ) → IsMove part m node → Moved m.value node
  moved m node (inl own) = own_move m.value own.o node (mine own.o own.among) own.enabled own.at
  moved m node (inr outer) = outer_move m outer.w node outer.among outer.may outer.at

  abbrev Legal : (ℕ → Bool) → Type 0
  Legal v = (s : ℕ) → IsBit width from s → legal (now v (v ack) s) ≡ true

  -- the acknowledge isn't at another bit, nor at a rail
  ack_elsewhere : (s t : ℕ) → IsBit width from s → IsBit width from t → s ≢ t → (k : Role) → ack ≢ place k s
  ack_elsewhere s t bit other ne rail_t e = ack_beside s 0 bit (omega arith) (omega (arith, e))
  ack_elsewhere s t bit other ne rail_f e = ack_beside s 1 bit (omega arith) e
  ack_elsewhere s t bit other ne write_t e = ack_beside s 2 bit (omega arith) e
  ack_elsewhere s t bit other ne write_f e = ack_beside s 3 bit (omega arith) e
  ack_elsewhere s t bit other ne written e = ne (same_bit s t bit other (one_bit s bit e))

  -- a move at a bit keeps it legal
  legal_here : (v : ℕ → Bool) (s : ℕ) → IsBit width from s → (k : Role) → legal (now v (v ack) s) ≡ true → may k (now v (v ack) s) ≡ true →
      legal (now (turned v (place k s)) (turned v (place k s) ack) s) ≡ true
  legal_here v s bit rail_t l m = carry legal _ s _ _ (five_at v (v ack) s rail_t)
      (turned_apart v s ack (λ e. ack_beside s 0 bit (omega arith) (omega (arith, e)))) (table.stays rail_t (now v (v ack) s) l m)
  legal_here v s bit rail_f l m = carry legal _ s _ _ (five_at v (v ack) s rail_f) (turned_apart v (s + 1) ack (ack_beside s 1 bit (omega arith)))
      (table.stays rail_f (now v (v ack) s) l m)
  legal_here v s bit write_t l m = carry legal _ s _ _ (five_at v (v ack) s write_t) (turned_apart v (s + 2) ack (ack_beside s 2 bit (omega arith)))
      (table.stays write_t (now v (v ack) s) l m)
  legal_here v s bit write_f l m = carry legal _ s _ _ (five_at v (v ack) s write_f) (turned_apart v (s + 3) ack (ack_beside s 3 bit (omega arith)))
      (table.stays write_f (now v (v ack) s) l m)
  legal_here v s bit written l m = by (cases_eq ack (s + 4))
    where
      five : Five (turned v (s + 4)) s (turn written (now v (v ack) s))
      five = five_at v (v ack) s written

      by : (ack ≡ s + 4) ⊎ (ack ≢ s + 4) → legal (now (turned v (s + 4)) (turned v (s + 4) ack) s) ≡ true
      by (inr ne) = carry legal _ s _ _ five (turned_apart v (s + 4) ack ne) (table.stays written (now v (v ack) s) l m)
      by (inl e) =
          carry legal (turned v (s + 4)) s (both_turned (now v (v ack) s)) _
          (record { xt = five.xt; xf = five.xf; wt = five.wt; wf = five.wf; wa = five.wa })
          (ap (turned v (s + 4)) e ∙ (turned_here v (s + 4) ∙ ap (λ n. not (v n)) (sym e)))
          (table.stays_alone (now v (v ack) s) l m)

  leaf_turned : (v : ℕ → Bool) (o : Owned) → IsTreeSettled leaves tree_from v → Contains tree o → fires v o ≡ true → o.node ≡ ack → (s : ℕ) →
      IsBit width from s →
      v (s + 4) ≡ not (v ack)
  leaf_turned v o settled among f at s bit =
      All-contains (λ leaf. v leaf ≡ not (v ack)) leaves (s + 4) (known.turns v o settled among f at) (bit_leaf width from s bit)

  legal_kept : (v : ℕ → Bool) (node : ℕ) → Legal v → IsTreeSettled leaves tree_from v → Moved v node → Legal (turned v node)
  legal_kept v node l settled (at_bit s bit k m at) t other =
      subst (λ n. legal (now (turned v n) (turned v n ack) t) ≡ true) (sym at) (by (cases_eq s t))
    where
      by : (s ≡ t) ⊎ (s ≢ t) → legal (now (turned v (place k s)) (turned v (place k s) ack) t) ≡ true
      by (inl e) = subst (λ x. legal (now (turned v (place k s)) (turned v (place k s) ack) x) ≡ true) e (legal_here v s bit k (l s bit) m)
      by (inr ne) = carry legal _ t (now v (v ack) t) _ (five_beside v (v ack) t (place k s) (bits_apart s t bit other ne k))
          (turned_apart v (place k s) ack (ack_elsewhere s t bit other ne k)) (l t other)
  legal_kept v node l settled (in_tree o among f at) t other =
      subst (λ n. legal (now (turned v n) (turned v n ack) t) ≡ true) (sym at) (by (cases_eq o.node ack))
    where
      far : IsBeside t o.node
      far = let past = behind o among in let within = bit_within t other in inr (omega (arith, past, within.1))

      five : Five (turned v o.node) t (now v (v ack) t)
      five = five_beside v (v ack) t o.node far

      by : (o.node ≡ ack) ⊎ (o.node ≢ ack) → legal (now (turned v o.node) (turned v o.node ack) t) ≡ true
      by (inr ne) = carry legal _ t (now v (v ack) t) _ five (turned_apart v o.node ack (λ e. ne (sym e))) (l t other)
      by (inl e) =
          carry legal (turned v o.node) t (acknowledged (now v (v ack) t)) _
          (record { xt = five.xt; xf = five.xf; wt = five.wt; wf = five.wf; wa = five.wa })
          (ap (turned v o.node) (sym e) ∙ (turned_here v o.node ∙ ap (λ n. not (v n)) e))
          (table.stays_after (now v (v ack) t) (l t other) (leaf_turned v o settled among f e t other))

  rail_move : (v : ℕ → Bool) (s j : ℕ) → IsBit width from s → j < 4 → TreeMove leaves tree_from v (s + j)
  rail_move v s j (i, less, is) few =
      let within = bit_within s (i, less, is) in
      elsewhere (outside (s + j) (omega (arith, within.1, few))) (all_from (λ leaf. leaf ≢ s + j) leaves (λ leaf among e.
      let (t, (k, inside, at), same) = leaf_bit width from leaf among in omega (arith, is, few, at, same, e)))

  tree_move : (v : ℕ → Bool) (node : ℕ) → Legal v → Moved v node → TreeMove leaves tree_from v node
  tree_move v node l (in_tree o among f at) = by_rule o among f at
  tree_move v node l (at_bit s bit k m at) = subst (TreeMove leaves tree_from v) (sym at) (by k m)
    where
      by : (k : Role) → may k (now v (v ack) s) ≡ true → TreeMove leaves tree_from v (place k s)
      by rail_t m = let e : s + 0 ≡ s = omega arith in subst (TreeMove leaves tree_from v) e (rail_move v s 0 bit (omega arith))
      by rail_f m = rail_move v s 1 bit (omega arith)
      by write_t m = rail_move v s 2 bit (omega arith)
      by write_f m = rail_move v s 3 bit (omega arith)
      by written m =
          let within = bit_within s bit in
          of_leaf (outside (s + 4) (omega (arith, within.1))) (table.written_as_acknowledged (now v (v ack) s) (l s bit) m)

  pub record Holds (m : Moment) : Type 0 where
    pub legal : Legal m.value
    pub settled : IsTreeSettled leaves tree_from m.value

  first : (v : ℕ → Bool) → IsFirstState part v → Holds (record { value = v; noted = λ n. false })
  first v is = record {
    legal = λ s bit.
        let low = writes s bit in
        table.legal_at_first (now v (v ack) s) (bits_valid v width from is.bits s bit) low.0 low.1 ack_low (leaf_low (s + 4) (bit_leaf width from s bit));
    settled = known.first v (λ o among. node_low o among ∙ sym ack_low);
  }
    where
      leaf_low : (leaf : ℕ) → Contains leaves leaf → v leaf ≡ false
      leaf_low leaf among = low_at v (leaves ++ map (λ (o : Owned). o.node) tree) leaf is.own
          (Contains-append_left leaves (map (λ (o : Owned). o.node) tree) leaf among)

      node_low : (o : Owned) → Contains tree o → v o.node ≡ false
      node_low o among = low_at v (leaves ++ map (λ (o : Owned). o.node) tree) o.node is.own
          (Contains-append_right leaves (map (λ (o : Owned). o.node) tree) o.node (mapped_among (λ (o : Owned). o.node) tree o among))

      ack_low : v ack ≡ false
      ack_low = by (cases_eq width 1)
        where
          alone : (w : ℕ) → w ≡ 1 → all_written w from ≡ from + 4
          alone w e = subst (λ k. all_written k from ≡ from + 4) (sym e) refl

          by : (width ≡ 1) ⊎ (width ≢ 1) → v ack ≡ false
          by (inl e) = ap v (alone width e) ∙ leaf_low (from + 4) (bit_leaf width from from (0, omega (arith, some), omega arith))
          by (inr ne) =
              let (o, among, at) = known.top (omega (arith, leaves_length width from, some, ne)) in
              ap v (sym at) ∙ node_low o among

      writes : (s : ℕ) → IsBit width from s → (v (s + 2) ≡ false) × (v (s + 3) ≡ false)
      writes s bit = (
        low_at v (map (λ (w : Wire). w.node) part.allows) (s + 2) is.outside
            (mapped_among (λ (w : Wire). w.node) part.allows _ (among_bits (bit_allows ack) width from _ s bit (0, omega arith, refl))),
        low_at v (map (λ (w : Wire). w.node) part.allows) (s + 3) is.outside
            (mapped_among (λ (w : Wire). w.node) part.allows _ (among_bits (bit_allows ack) width from _ s bit (1, omega arith, refl))),
      )

  -- an enabled rule at a bit stays so while another node moves
  firm_here : (v : ℕ → Bool) (s : ℕ) → IsBit width from s → (k : Role) → is_own k ≡ true → (node : ℕ) → Legal v → may k (now v (v ack) s) ≡ true →
      Moved v node → node ≢ place k s → may k (now (turned v node) (v ack) s) ≡ true
  firm_here v s bit k own node l m (in_tree o among f at) ne =
      let past = behind o among in
      let within = bit_within s bit in
      carry (may k) _ s (now v (v ack) s) (v ack) (five_beside v (v ack) s node (inr (omega (arith, past, within.1, at)))) refl m
  firm_here v s bit k own node l m (at_bit t other j o at) ne =
      subst (λ n. may k (now (turned v n) (v ack) s) ≡ true) (sym at) (by (cases_eq t s))
    where
      turned_by : t ≡ s → (k ≡ j) ⊎ (is_other k j ≡ true) → may k (now (turned v (place j t)) (v ack) s) ≡ true
      turned_by e (inl same) = absurd (ne (at ∙ (ap (λ r. place r t) (sym same) ∙ ap (place k) e)))
      turned_by e (inr apart) =
          subst (λ x. may k (now (turned v (place j x)) (v ack) s) ≡ true) (sym e)
          (carry (may k) _ s (turn j (now v (v ack) s)) (v ack) (five_at v (v ack) s j) (table.ack_kept j (now v (v ack) s))
          (table.firm k j (now v (v ack) s) own apart (l s bit) m (subst (λ x. may j (now v (v ack) x) ≡ true) e o)))

      by : (t ≡ s) ⊎ (t ≢ s) → may k (now (turned v (place j t)) (v ack) s) ≡ true
      by (inl e) = turned_by e (table.role_cases k j)
      by (inr far) = carry (may k) _ s (now v (v ack) s) (v ack) (five_beside v (v ack) s (place j t) (bits_apart t s other bit far j)) refl m

  firm : (v : ℕ → Bool) (o : Owned) (node : ℕ) → Legal v → IsTreeSettled leaves tree_from v → Mine o → fires v o ≡ true → Moved v node → node ≢ o.node →
      fires (turned v node) o ≡ true
  firm v o node l settled (of_tree among) f move ne = known.firm v o node settled among f (tree_move v node l move) ne
  firm v o node l settled (of_bit s bit k own at same pulled) f move ne =
      same (turned v node) (v ack) ∙ firm_here v s bit k own node l (sym (same v (v ack)) ∙ f) move (λ e. ne (e ∙ sym at))

  abbrev ack_wire : Wire
  ack_wire = wire ack (λ m. list_all (has_written m.value) (bits_from width from))
      (λ m. all_low m.value (rails_of (map (λ (b : Bit). b.w) (bits_from width from))))

  -- the acknowledge turns once each bit is ready
  ready_bits : (v : ℕ → Bool) (o : Owned) → Legal v → IsTreeSettled leaves tree_from v → Mine o → fires v o ≡ true → o.node ≡ ack → (s : ℕ) →
      IsBit width from s →
      ready (now v (v ack) s) ≡ true
  ready_bits v o l settled (of_tree among) f at s bit = table.ready_after (now v (v ack) s) (l s bit) (leaf_turned v o settled among f at s bit)
  ready_bits v o l settled (of_bit t other k own here same pulled) f at s bit = by k own (sym here ∙ at) (sym (same v (v ack)) ∙ f)
    where
      by : (k : Role) → is_own k ≡ true → place k t ≡ ack → may k (now v (v ack) t) ≡ true → ready (now v (v ack) s) ≡ true
      by rail_t own e m = absurd (ack_beside t 0 other (omega arith) (omega (arith, e)))
      by rail_f own e m = absurd (ack_beside t 1 other (omega arith) (sym e))
      by write_t own e m = absurd (cc own)
      by write_f own e m = absurd (cc own)
      by written own e m =
          let one : t ≡ s = same_bit t s other bit (one_bit t other (sym e)) in
          table.ready_alone (now v (v ack) s) (l s bit) (subst (λ x. may written (now v (v ack) x) ≡ true) one m)

  ack_may : (m : Moment) → ((s : ℕ) → IsBit width from s → ready (now m.value (m.value ack) s) ≡ true) → may_move m ack_wire ≡ true
  ack_may m each = by (m.value ack) each
    where
      by : (b : Bool) → ((s : ℕ) → IsBit width from s → ready (now m.value b s) ≡ true) →
          (if b then all_low m.value (rails_of (map (λ (b : Bit). b.w) (bits_from width from))) else list_all (has_written m.value) (bits_from width from)) ≡
          true
      by true each = low_writes m.value width from each
      by false each = all_written_bits m.value false width from each

  -- a rail of the value moves only as it is to
  rail_may : (m : Moment) (o : Owned) (s j : ℕ) → IsBit width from s → j < 2 → Mine o → fires m.value o ≡ true → s + j ≡ o.node → (k : Role) → is_own k ≡ true →
      s + j ≡ place k s → may k (now m.value (m.value ack) s) ≡ true
  rail_may m o s j bit few (of_tree among) f here k own at =
      let past = behind o among in
      let within = bit_within s bit in
      absurd (omega (arith, past, within.1, here, few))
  rail_may m o s j (i, less, is) few (of_bit t (x, within, same_place) r mine_own there same pulled) f here k own at =
      by r mine_own k own at (here ∙ there) (sym (same m.value (m.value ack)) ∙ f)
    where
      by : (r : Role) → is_own r ≡ true → (k : Role) → is_own k ≡ true → s + j ≡ place k s → s + j ≡ place r t → may r (now m.value (m.value ack) t) ≡ true →
          may k (now m.value (m.value ack) s) ≡ true
      by rail_t _ rail_t _ at e f = let one : t ≡ s = omega (arith, is, same_place, at, e) in subst (λ x. may rail_t (now m.value (m.value ack) x) ≡ true) one f
      by rail_f _ rail_f _ at e f = let one : t ≡ s = omega (arith, is, same_place, at, e) in subst (λ x. may rail_f (now m.value (m.value ack) x) ≡ true) one f
      by rail_t _ rail_f _ at e f = absurd (omega (arith, is, same_place, at, e))
      by rail_f _ rail_t _ at e f = absurd (omega (arith, is, same_place, at, e))
      by written _ k _ at e f = absurd (omega (arith, is, same_place, few, e))
      by rail_t _ written _ at e f = absurd (omega (arith, few, at))
      by rail_f _ written _ at e f = absurd (omega (arith, few, at))
      by write_t own k _ at e f = absurd (cc own)
      by write_f own k _ at e f = absurd (cc own)
      by rail_t _ write_t own at e f = absurd (cc own)
      by rail_t _ write_f own at e f = absurd (cc own)
      by rail_f _ write_t own at e f = absurd (cc own)
      by rail_f _ write_f own at e f = absurd (cc own)

  abbrev rail_wire_t : ℕ → Wire
  rail_wire_t s = wire s (λ m. m.value (s + 2)) (λ m. m.value (s + 3))

  abbrev rail_wire_f : ℕ → Wire
  rail_wire_f s = wire (s + 1) (λ m. m.value (s + 3)) (λ m. m.value (s + 2))

  promised : (m : Moment) (o : Owned) → Holds m → Mine o → fires m.value o ≡ true → (w : Wire) → Contains part.promises w → w.node ≡ o.node →
      may_move m w ≡ true
  promised m o h own f w among here = by (among_cases ack_wire (flat_map bit_promises (bits_from width from)) w among)
    where
      rail_t_moves : (s : ℕ) → IsBit width from s → s ≡ o.node → may_move m (rail_wire_t s) ≡ true
      rail_t_moves s bit at =
          let e : s + 0 ≡ s = omega arith in
          table.under_t (now m.value (m.value ack) s) (rail_may m o s 0 bit (omega arith) own f (e ∙ at) rail_t refl e)

      rail_f_moves : (s : ℕ) → IsBit width from s → s + 1 ≡ o.node → may_move m (rail_wire_f s) ≡ true
      rail_f_moves s bit at = table.under_f (now m.value (m.value ack) s) (rail_may m o s 1 bit (omega arith) own f at rail_f refl refl)

      second : (s : ℕ) → IsBit width from s → (rail_wire_f s ≡ w) ⊎ Contains [] w → may_move m w ≡ true
      second s bit (inl e) = subst (λ (x : Wire). may_move m x ≡ true) e (rail_f_moves s bit (ap (λ (x : Wire). x.node) e ∙ here))
      second s bit (inr none) = absurd (none_among w none)

      either : (s : ℕ) → IsBit width from s → (rail_wire_t s ≡ w) ⊎ Contains (rail_wire_f s ∷ []) w → may_move m w ≡ true
      either s bit (inl e) = subst (λ (x : Wire). may_move m x ≡ true) e (rail_t_moves s bit (ap (λ (x : Wire). x.node) e ∙ here))
      either s bit (inr rest) = second s bit (among_cases (rail_wire_f s) [] w rest)

      by : (ack_wire ≡ w) ⊎ Contains (flat_map bit_promises (bits_from width from)) w → may_move m w ≡ true
      by (inl e) = subst (λ (x : Wire). may_move m x ≡ true) e
          (ack_may m (ready_bits m.value o h.legal h.settled own f (sym here ∙ ap (λ (x : Wire). x.node) (sym e))))
      by (inr rest) =
          let (s, bit, there) = bits_among bit_promises width from w rest in
          either s bit (among_cases (rail_wire_t s) (rail_wire_f s ∷ []) w there)

  apart : (v : ℕ → Bool) (o : Owned) → Legal v → Mine o → (guard_holds v o.rules.up && guard_holds v o.rules.down) ≡ false
  apart v o l (of_tree among) = known.apart v o among
  apart v o l (of_bit s bit k own at same pulled) = pulled v (v ack) ∙ table.apart k (now v (v ack) s) (l s bit)

  -- where the acknowledge and the rails by which it is written are low
  pub record Idle (v : ℕ → Bool) : Type 0 where
    pub ack : v ack ≡ false
    pub writes : (s : ℕ) → IsBit width from s → (v (s + 2) ≡ false) × (v (s + 3) ≡ false)

  idle_from : (v : ℕ → Bool) → all_low v part.ports ≡ true → Idle v
  idle_from v low = record {
    ack = low_from_not (v ack) (left_of (not (v ack)) _ low);
    writes = λ s bit.
        let both = writes_low v width from (right_of (not (v ack)) _ low) s bit in
        (low_from_not (v (s + 2)) (left_of (not (v (s + 2))) _ both), low_from_not (v (s + 3)) (right_of (not (v (s + 2))) _ both));
  }

  lows : (v : ℕ → Bool) → Legal v → IsTreeSettled leaves tree_from v → Idle v → all_low v part.lows ≡ true
  lows v l settled idle =
      each_low v part.lows (λ n among. by n (Contains-append_cases leaves (map (λ (o : Owned). o.node) tree) n among))
    where
      leaf_low : (leaf : ℕ) → Contains leaves leaf → v leaf ≡ false
      leaf_low leaf among =
          let (s, bit, at) = leaf_bit width from leaf among in
          let both = idle.writes s bit in
          ap v at ∙ table.low_when_idle (now v (v ack) s) (l s bit) both.0 both.1 idle.ack

      by : (n : ℕ) → Contains leaves n ⊎ Contains (map (λ (o : Owned). o.node) tree) n → v n ≡ false
      by n (inl leaf) = leaf_low n leaf
      by n (inr among) =
          let (o, here, is) = among_mapped (λ (o : Owned). o.node) tree n among in
          ap v (sym is) ∙ known.rests v settled idle.ack (all_from (λ leaf. v leaf ≡ false) leaves leaf_low) o here

  valid : (v : ℕ → Bool) → Legal v → Idle v → list_all (is_valid v) part.bits ≡ true
  valid v l idle = valid_bits v width from (λ s bit. let both = idle.writes s bit in table.valid_when_idle (now v (v ack) s) (l s bit) both.0 both.1 idle.ack)

  -- where it stands still a rail may move by which it is written
  waits : (m : Moment) → Holds m → ((o : Owned) → Contains part.own o → fires m.value o ≡ false) → (w : Wire) × Contains part.allows w × (may_move m w ≡ true)
  waits m h none =
      let (leaf, among, is) = known.waits m.value h.settled (λ o among. none o (Contains-append_right (flat_map bit_owned (bits_from width from)) tree o among))
      in
      let (s, bit, at) = leaf_bit width from leaf among in
      by s bit (waiting s bit (ap m.value (sym at) ∙ is))
    where
      by : (s : ℕ) → IsBit width from s → (may write_t (now m.value (m.value ack) s) ≡ true) ⊎ (may write_f (now m.value (m.value ack) s) ≡ true) →
          (w : Wire) × Contains part.allows w × (may_move m w ≡ true)
      by s bit (inl f) = (write_wire_t s, among_bits (bit_allows ack) width from (write_wire_t s) s bit (0, omega arith, refl), f)
      by s bit (inr f) = (write_wire_f s, among_bits (bit_allows ack) width from (write_wire_f s) s bit (1, omega arith, refl), f)

      at_one : (s : ℕ) → IsBit width from s → (o : Owned) → Contains (bit_owned (bit_at s)) o → fires m.value o ≡ false
      at_one s bit o here = none o (Contains-append_left (flat_map bit_owned (bits_from width from)) tree o (among_bits bit_owned width from o s bit here))

      waiting : (s : ℕ) → IsBit width from s → m.value (s + 4) ≡ m.value ack →
          (may write_t (now m.value (m.value ack) s) ≡ true) ⊎ (may write_f (now m.value (m.value ack) s) ≡ true)
      waiting s bit same =
          let n = now m.value (m.value ack) s in
          or_cases (may write_t n) (may write_f n)
          (table.waits n (h.legal s bit) same
          (at_one s bit (owned s (kept_rail (s + 2) (s + 1) (s + 3))) (0, omega arith, refl))
          (at_one s bit (owned (s + 1) (kept_rail (s + 3) s (s + 2))) (1, omega arith, refl))
          (at_one s bit (owned (s + 4) (bit_written (bit_at s))) (2, omega arith, refl)))

  kept : (m : Moment) (node : ℕ) → Holds m → IsMove part m node → Holds (moment_after part m node)
  kept m node h move =
      let at = moved m node move in record {
        legal = legal_kept m.value node h.legal h.settled at;
        settled = known.stays m.value node h.settled (tree_move m.value node h.legal at);
      }

  is_kept : (m : Moment) → Holds m → IsKept part m
  is_kept m h = record {
    promised = λ o among f w here at. promised m o h (mine o among) f w here at;
    firm = λ o among f node move ne. firm m.value o node h.legal h.settled (mine o among) f (moved m node move) ne;
    apart = λ o among. apart m.value o h.legal (mine o among);
    lows = λ low. lows m.value h.legal h.settled (idle_from m.value low);
    bits = λ low. valid m.value h.legal (idle_from m.value low);
    waits = λ none. inl (waits m h none);
  }

  pub keeps : Keeps part
  keeps = kept_by part Holds first kept is_kept

pub variable_keeps : ((leaves : List ℕ) (from : ℕ) → 0 < length leaves → AreOutside leaves from → Settles leaves from) → (width from : ℕ) → 1 ≤ width →
    Keeps (variable_part width from)
variable_keeps settles width from some = keeps width from some settles
