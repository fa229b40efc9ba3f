-- A part that keeps its contract keeps it where its nodes have other numbers.
use Rattle.std.proofs.Common.{◌≡◌, ◌≢◌, ℕ, zero, suc, ◌+◌, ◌<◌, ◌≤◌, Bool, true, not, List, [], ◌∷◌, length, map, refl, sym, ap, subst, ◌∙◌, inl, inr, arith}
use Rattle.std.specs.Prelude.{◌&&◌, ◌||◌, ◌==◌, ◌⊎◌, if◌then◌else◌, Contains, AllPairs, slice_index_or}
use Rattle.std.specs.List.{list_all}
use Rattle.std.proofs.Math.Path.{fun_ext}
use Rattle.std.proofs.lemmas.Bool.{eq-eqb, ne_eqb, cases_eq, cases_lt, cases_order}
use Rattle.std.proofs.lemmas.List.{get_or_past, get_or_default}
use Rattle.std.proofs.Math.Logic.{⊎_elim}
use Rattle.prs_core.specs.declared.rule.Literal.{Literal}
use Rattle.prs_core.specs.Nets.{GuardValue}
use Rattle.prs_core.specs.Moves.{guard_holds, term_holds}
use Rattle.prs_core.specs.Pairs.{Pair}
use Rattle.prs_core.specs.Parts.{Part, Owned, owned, Wire, wire, Moment, IsMove, IsKept, Keeps, Reached, at_first, and_then, all_low, is_valid, turned, moment_after, fires, may_move}
use Rattle.prs_core.specs.Turning.{among_mapped, mapped_among}

abbrev pub IsOneToOne : (ℕ → ℕ) → Type 0
IsOneToOne to = (a b : ℕ) → to a ≡ to b → a ≡ b

-- what the part at the old numbers sees
abbrev pub seen : (ℕ → ℕ) → Moment → Moment
seen to m = record { value = λ n. m.value (to n); noted = λ n. m.noted (to n) }

abbrev guard_to : (ℕ → ℕ) → GuardValue → GuardValue
guard_to to g = map (λ t. map (λ (l : Literal). let k : Literal = record { node = to l.node; high = l.high } in k) t) g

abbrev owned_to : (ℕ → ℕ) → Owned → Owned
owned_to to o = owned (to o.node) (record { up = guard_to to o.rules.up; down = guard_to to o.rules.down })

abbrev wire_to : (ℕ → ℕ) → Wire → Wire
wire_to to w = wire (to w.node) (λ m. w.rises (seen to m)) (λ m. w.falls (seen to m))

abbrev pub renamed : (to : ℕ → ℕ) (notes : Moment → ℕ → ℕ → Bool) → Part → Part
renamed to notes p = record {
  own = map (owned_to to) p.own;
  promises = map (wire_to to) p.promises;
  allows = map (wire_to to) p.allows;
  lows = map to p.lows;
  bits = map (λ (b : Pair). let q : Pair = record { t = to b.t; f = to b.f } in q) p.bits;
  ports = map to p.ports;
  blocked = λ v. p.blocked (λ n. v (to n));
  notes = notes;
}

-- what a guard says, at the old numbers and at the new ones
term_same : (to : ℕ → ℕ) (v : ℕ → Bool) (t : List Literal) →
    term_holds v (map (λ (l : Literal). let k : Literal = record { node = to l.node; high = l.high } in k) t) ≡ term_holds (λ n. v (to n)) t
term_same to v [] = refl
term_same to v (l ∷ t) = ap (λ b. (if l.high then v (to l.node) else not (v (to l.node))) && b) (term_same to v t)

guard_same : (to : ℕ → ℕ) (v : ℕ → Bool) (g : GuardValue) → guard_holds v (guard_to to g) ≡ guard_holds (λ n. v (to n)) g
guard_same to v [] = refl
guard_same to v (t ∷ g) = ap (λ b. b || guard_holds v (guard_to to g)) (term_same to v t) ∙ ap (λ b. term_holds (λ n. v (to n)) t || b) (guard_same to v g)

fires_same : (to : ℕ → ℕ) (v : ℕ → Bool) (o : Owned) → fires v (owned_to to o) ≡ fires (λ n. v (to n)) o
fires_same to v o =
    ap (λ b. if v (to o.node) then b else guard_holds v (guard_to to o.rules.up)) (guard_same to v o.rules.down)
    ∙ ap (λ b. if v (to o.node) then guard_holds (λ n. v (to n)) o.rules.down else b) (guard_same to v o.rules.up)

low_same : (to : ℕ → ℕ) (v : ℕ → Bool) (ns : List ℕ) → all_low v (map to ns) ≡ all_low (λ n. v (to n)) ns
low_same to v [] = refl
low_same to v (n ∷ ns) = ap (λ b. not (v (to n)) && b) (low_same to v ns)

outside_same : (to : ℕ → ℕ) (v : ℕ → Bool) (ws : List Wire) →
    all_low v (map (λ (w : Wire). w.node) (map (wire_to to) ws)) ≡ all_low (λ n. v (to n)) (map (λ (w : Wire). w.node) ws)
outside_same to v [] = refl
outside_same to v (w ∷ ws) = ap (λ b. not (v (to w.node)) && b) (outside_same to v ws)

bits_same : (to : ℕ → ℕ) (v : ℕ → Bool) (bs : List Pair) →
    list_all (is_valid v) (map (λ (b : Pair). let q : Pair = record { t = to b.t; f = to b.f } in q) bs) ≡ list_all (is_valid (λ n. v (to n))) bs
bits_same to v [] = refl
bits_same to v (b ∷ bs) = ap (λ h. is_valid (λ n. v (to n)) b && h) (bits_same to v bs)

pub same_test : (to : ℕ → ℕ) → IsOneToOne to → (a b : ℕ) → (to a == to b) ≡ (a == b)
same_test to one a b =
    ⊎_elim
    (λ (e : a ≡ b). eq-eqb (to a) (to b) (ap to e) ∙ sym (eq-eqb a b e))
    (λ (ne : a ≡ b → ⊥). ne_eqb (to a) (to b) (λ e. ne (one a b e)) ∙ sym (ne_eqb a b ne))
    (cases_eq a b)

turned_same : (to : ℕ → ℕ) → IsOneToOne to → (v : ℕ → Bool) (node : ℕ) → ◌≡◌ {A = ℕ → Bool} (λ n. turned v (to node) (to n)) (turned (λ n. v (to n)) node)
turned_same to one v node = fun_ext (λ n. ap (λ b. if b then not (v (to n)) else v (to n)) (same_test to one n node))

module _ (to : ℕ → ℕ) (one : IsOneToOne to) (notes : Moment → ℕ → ℕ → Bool) (p : Part) (agree : (m : Moment) (moved node : ℕ) →
    notes m (to moved) (to node) ≡ p.notes (seen to m) moved node) where
  abbrev new : Part
  new = renamed to notes p

  after_seen : (m : Moment) (node : ℕ) → seen to (moment_after new m (to node)) ≡ moment_after p (seen to m) node
  after_seen m node =
      ap (λ (v : ℕ → Bool). let n : Moment = record { value = v; noted = λ k. notes m (to node) (to k) } in n) (turned_same to one m.value node)
      ∙ ap (λ (a : ℕ → Bool). let n : Moment = record { value = turned (λ k. m.value (to k)) node; noted = a } in n) (fun_ext (agree m node))

  fires_seen : (m : Moment) (o k : Owned) → owned_to to k ≡ o → fires m.value o ≡ true → fires (seen to m).value k ≡ true
  fires_seen m o k is fire = sym (fires_same to m.value k) ∙ ap (fires m.value) is ∙ fire

  move_seen : (m : Moment) (node : ℕ) → IsMove new m node → (k : ℕ) × (node ≡ to k) × IsMove p (seen to m) k
  move_seen m node (inl own) =
      let (o, among, is) = among_mapped (owned_to to) p.own own.o own.among in
      (o.node, own.at ∙ ap (λ (o : Owned). o.node) (sym is), inl (record { o = o; among = among; enabled = fires_seen m own.o o is own.enabled; at = refl }))
  move_seen m node (inr outside) =
      let (w, among, is) = among_mapped (wire_to to) p.allows outside.w outside.among in
      (w.node, outside.at ∙ ap (λ (w : Wire). w.node) (sym is), inr (record { w = w; among = among; may = ap (may_move m) is ∙ outside.may; at = refl }))

  reached_seen : (m : Moment) → Reached new m → Reached p (seen to m)
  reached_seen m (at_first v is) =
      at_first (λ n. v (to n)) (record {
        outside = sym (outside_same to v p.allows) ∙ is.outside;
        own = sym (low_same to v p.lows) ∙ is.own;
        bits = sym (bits_same to v p.bits) ∙ is.bits;
      })
  reached_seen m (and_then before node reached move) =
      let (k, at, move_k) = move_seen before node move in
      subst (λ n. Reached p (seen to (moment_after new before n))) (sym at)
      (subst (Reached p) (sym (after_seen before k)) (and_then (seen to before) k (reached_seen before reached) move_k))

  kept_seen : (m : Moment) → IsKept p (seen to m) → IsKept new m
  kept_seen m kept = record {
    promised = λ o among fire w within same.
        let (k, in_p, is) = among_mapped (owned_to to) p.own o among in
        let (x, in_promises, wire_is) = among_mapped (wire_to to) p.promises w within in
        subst (λ w. may_move m w ≡ true) wire_is (kept.promised k in_p (fires_seen m o k is fire) x in_promises
        (one x.node k.node (ap (λ (w : Wire). w.node) wire_is ∙ same ∙ ap (λ (o : Owned). o.node) (sym is))));
    firm = λ o among fire node move ne.
        let (k, in_p, is) = among_mapped (owned_to to) p.own o among in
        let (n, at, move_n) = move_seen m node move in
        ap (λ n. fires (turned m.value n) o) at
        ∙ ap (fires (turned m.value (to n))) (sym is)
        ∙ fires_same to (turned m.value (to n)) k
        ∙ ap (λ (v : ℕ → Bool). fires v k) (turned_same to one m.value n)
        ∙ kept.firm k in_p (fires_seen m o k is fire) n move_n (λ e. ne (at ∙ ap to e ∙ ap (λ (o : Owned). o.node) is));
    apart = λ o among.
        let (k, in_p, is) = among_mapped (owned_to to) p.own o among in
        ap (λ (o : Owned). guard_holds m.value o.rules.up && guard_holds m.value o.rules.down) (sym is)
        ∙ ap (λ b. b && guard_holds m.value (guard_to to k.rules.down)) (guard_same to m.value k.rules.up)
        ∙ ap (λ b. guard_holds (λ n. m.value (to n)) k.rules.up && b) (guard_same to m.value k.rules.down)
        ∙ kept.apart k in_p;
    lows = λ low. low_same to m.value p.lows ∙ kept.lows (sym (low_same to m.value p.ports) ∙ low);
    bits = λ low. bits_same to m.value p.bits ∙ kept.bits (sym (low_same to m.value p.ports) ∙ low);
    waits = λ none. waiting (kept.waits (λ k in_p. sym (fires_same to m.value k) ∙ none (owned_to to k) (mapped_among (owned_to to) p.own k in_p)));
  }
    where
      waiting : ((w : Wire) × Contains p.allows w × (may_move (seen to m) w ≡ true)) ⊎ (p.blocked (seen to m).value ≡ true) →
          ((w : Wire) × Contains new.allows w × (may_move m w ≡ true)) ⊎ (new.blocked m.value ≡ true)
      waiting (inl found) = inl (wire_to to found.0, mapped_among (wire_to to) p.allows found.0 found.1, found.2)
      waiting (inr blocked) = inr blocked

  pub keeps_renamed : Keeps p → Keeps (renamed to notes p)
  keeps_renamed keeps m reached = kept_seen m (keeps (seen to m) (reached_seen m reached))

-- the numbers 0, 1, .. go to the nodes of a list, and those behind them to numbers beyond
abbrev summed : List ℕ → ℕ
summed [] = 0
summed (n ∷ ns) = n + summed ns

abbrev pub numbers_to : List ℕ → ℕ → ℕ
numbers_to nodes n = slice_index_or nodes n (suc (n + summed nodes))

within_sum : (ns : List ℕ) (k d : ℕ) → k < length ns → slice_index_or ns k d ≤ summed ns
within_sum [] k d within = absurd (omega arith)
within_sum (n ∷ ns) zero d within = omega arith
within_sum (n ∷ ns) (suc k) d within = omega (arith, within_sum ns k d (omega arith))

pub one_to_one : (nodes : List ℕ) → AllPairs (λ a b. a ≢ b) nodes → IsOneToOne (numbers_to nodes)
one_to_one nodes distinct a b same =
    ⊎_elim
    (λ (in_a : a < length nodes).
    ⊎_elim
    (λ (in_b : b < length nodes). both in_a in_b)
    (λ (past_b : length nodes ≤ b). absurd (omega (
      arith,
      within_sum nodes a (suc (a + summed nodes)) in_a,
      same,
      get_or_past nodes b (suc (b + summed nodes)) past_b,
    )))
    (cases_lt b (length nodes)))
    (λ (past_a : length nodes ≤ a).
    ⊎_elim
    (λ (in_b : b < length nodes). absurd (omega (
      arith,
      within_sum nodes b (suc (b + summed nodes)) in_b,
      same,
      get_or_past nodes a (suc (a + summed nodes)) past_a,
    )))
    (λ (past_b : length nodes ≤ b). omega (
      arith,
      same,
      get_or_past nodes a (suc (a + summed nodes)) past_a,
      get_or_past nodes b (suc (b + summed nodes)) past_b,
    ))
    (cases_lt b (length nodes)))
    (cases_lt a (length nodes))
  where
    both : a < length nodes → b < length nodes → a ≡ b
    both in_a in_b =
        let here = get_or_default nodes a (suc (a + summed nodes)) 0 in_a in
        let there = get_or_default nodes b (suc (b + summed nodes)) 0 in_b in
        ⊎_elim (λ (e : a ≡ b). e)
        (λ less. ⊎_elim (λ (l : a < b). absurd (distinct a b 0 l in_b (sym here ∙ same ∙ there)))
        (λ (l : b < a). absurd (distinct b a 0 l in_a (sym there ∙ sym same ∙ here))) less)
        (cases_order a b)

-- where a part is written for any numbers
pub keeps_at : (nodes : List ℕ) → AllPairs (λ a b. a ≢ b) nodes → (notes : Moment → ℕ → ℕ → Bool) (p : Part) →
    ((m : Moment) (moved node : ℕ) → notes m (numbers_to nodes moved) (numbers_to nodes node) ≡ p.notes (seen (numbers_to nodes) m) moved node) → Keeps p →
    Keeps (renamed (numbers_to nodes) notes p)
keeps_at nodes distinct notes p agree = keeps_renamed (numbers_to nodes) (one_to_one nodes distinct) notes p agree
