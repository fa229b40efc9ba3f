-- An expression's circuit keeps its contract: by the law of its waves and the rules that are listed.
use Rattle.std.proofs.Common.{◌≡◌, ◌≢◌, ℕ, zero, suc, ◌+◌, ◌*◌, ◌/◌, ◌%◌, ◌^◌, ◌<◌, ◌==◌, Bool, true, false, List, [], ◌∷◌, length, map, get_or, Contains, refl, sym, ap, subst, ◌∙◌, arith, ◌⊎◌, inl, inr}
use Rattle.std.specs.Prelude.{not, ◌&&◌, ◌||◌, if◌then◌else◌, Some, is_some}
use Rattle.std.specs.List.{list_all}
use Rattle.std.proofs.lemmas.Bool.Decides.{nat_tests}
use Rattle.std.proofs.lemmas.List.Elements.{All-head, All-tail, All-contains, Contains-append_right}
use Rattle.prs_core.specs.Nets.{NodeRules}
use Rattle.prs_core.specs.Pairs as nodes
use Rattle.prs_core.specs.Moves.{guard_holds, rail_value_of}
use Rattle.prs_core.specs.Parts as parts
use Rattle.prs_core.specs.Parts.{Owned, Part, Wire, Moment, owned, owned_from, wire, turned, all_low, is_valid, may_move, IsFirstState, IsMove, Keeps, Reached}
use Rattle.prs_core.specs.Keeping.{held_in_each}
use Rattle.prs_core.specs.Turning.{turned_here, turned_apart, among_cases, none_among, among_mapped, mapped_among}
use Rattle.prs_core.specs.Deciding.{left_of, right_of, both_of}
use Rattle.width_check.specs.declared.typed.Var.{Var}
use Rattle.width_check.specs.Processes.{Formula}
use Rattle.width_check.specs.Values.{width_of, value, IsWellFormed}
use Rattle.width_check.specs.Typing.{var_width, ReadsFrom}
use Rattle.handshake_expand.specs.Layout.{formula_size}
use Rattle.function_blocks.specs.Expressions.{HasBits, formula_result, formula_rules}
use Rattle.function_blocks.specs.Rails.{levels_of, side_of, same_bit, Pairs, low_pairs, pair_in, turned_pairs, Rails, Single, one_rule_fires, value_on, neutral_on}
use Rattle.function_blocks.specs.Parts.{gate_count}
use Rattle.function_blocks.specs.Waves.{gate_rule, good, out_rail, full, empty, store_of, Waves}
use Rattle.function_blocks.specs.Listed.{rail_place, node_of, Valued, Told, Listed}
use Rattle.function_blocks.specs.BitsRead.{EachRead, bits_read}
use Rattle.function_blocks.specs.ExpressionParts.{IsOutside, value_seen, value_wire, variable_wire, variable_wires, expression_part, inner_bits, StandsApart, ExpressionRests}
use Rattle.function_blocks.proofs.Tables.{not_true}
use Rattle.function_blocks.proofs.Sizes.{result_length, rules_length}
use Rattle.function_blocks.proofs.PartSizes.{count_doubled}
use Rattle.function_blocks.proofs.ReadBits.{reads_bit, each_from, each_at, read_among, among_read, bits_within, vars_over, var_bound, over_bits, over_reads, value_same}
use Rattle.function_blocks.proofs.WavesHold.{expression_holds, read_alone, rest_read}
use Rattle.function_blocks.proofs.GatesTold.{listed}
use Rattle.function_blocks.proofs.NodePairs.{place_below, pairs_at, side_at, pairs_same, pairs_turned, Spot, spot_of, fires_told, low_is, valid_is, rail_among, variable_among, among_variable, all_at, none_all, each_valid, each_neutral, number_is}

cases : {A : Type 0} (b : Bool) → (b ≡ true → A) → (b ≡ false → A) → A
cases true f g = f refl
cases false f g = g refl

eq_from : (a b : ℕ) → (a == b) ≡ true → a ≡ b
eq_from a b h = grind (arith, nat_tests)

-- Booleans
and_same : (a : Bool) {c d : Bool} → (a ≡ true → c ≡ d) → (a && c) ≡ (a && d)
and_same true f = f refl
and_same false f = refl

never_true : (b : Bool) → (b ≡ true → ⊥) → b ≡ false
never_true true f = absurd (f refl)
never_true false f = refl

not_both : (a b : Bool) → not (a && b) ≡ true → (a && b) ≡ false
not_both a b h = not_true (a && b) h

same_self : (b : Bool) → same_bit b b ≡ true
same_self true = refl
same_self false = refl

invalid_low : (t f : Bool) → not (t && f) ≡ true → (t && not f || not t && f) ≡ false → (t ≡ false) × (f ≡ false)
invalid_low true true h k = absurd (cc h)
invalid_low true false h k = absurd (cc k)
invalid_low false true h k = absurd (cc k)
invalid_low false false h k = (refl, refl)

valid_some : (t f : Bool) → (t && not f || not t && f) ≡ true → (t || f) ≡ true
valid_some true f h = refl
valid_some false true h = refl
valid_some false false h = h

-- lists of nodes
low_at : (v : ℕ → Bool) (ns : List ℕ) (n : ℕ) → all_low v ns ≡ true → Contains ns n → v n ≡ false
low_at v ns n h among = not_true (v n) (all_at (λ k. not (v k)) ns n h among)

each_low : (v : ℕ → Bool) (ns : List ℕ) → ((n : ℕ) → Contains ns n → v n ≡ false) → all_low v ns ≡ true
each_low v [] f = refl
each_low v (n ∷ ns) f =
    both_of (not (v n)) (all_low v ns) (ap not (f n (0, omega arith, refl))) (each_low v ns (λ k among. f k (Contains-append_right (n ∷ []) ns k among)))

among_owned : (rules : List NodeRules) (from j : ℕ) → j < length rules → Contains (owned_from from rules) (owned (from + j) (get_or rules j nodes.no_rules))
among_owned [] from j l = absurd (omega (arith, l))
among_owned (r ∷ rs) from zero l = let z : from ≡ from + 0 = omega arith in (0, omega arith, ap (λ k. owned k r) z)
among_owned (r ∷ rs) from (suc j) l =
    let z : from + 1 + j ≡ from + suc j = omega arith in
    subst (λ (k : ℕ). Contains (owned_from from (r ∷ rs)) (owned k (get_or rs j nodes.no_rules))) z
    (Contains-append_right (owned from r ∷ []) (owned_from (from + 1) rs) (owned (from + 1 + j) (get_or rs j nodes.no_rules))
    (among_owned rs (from + 1) j (omega (arith, l))))

pairs_low : (v : ℕ → Bool) (from n : ℕ) → ((j : ℕ) → j < 2 * n → v (from + j) ≡ false) → pairs_at v from n ≡ low_pairs n
pairs_low v from n f = pairs_same v (λ k. false) from n f ∙ none from n
  where
    none : (from n : ℕ) → pairs_at (λ k. false) from n ≡ low_pairs n
    none from zero = refl
    none from (suc n) = ap (λ (z : Pairs n). (levels_of false false, z)) (none (from + 2) n)

low_side : (n k : ℕ) (one : Bool) → side_of (pair_in n (low_pairs n) k) one ≡ false
low_side zero k true = refl
low_side zero k false = refl
low_side (suc n) zero true = refl
low_side (suc n) zero false = refl
low_side (suc n) (suc k) one = low_side n k one

-- a rail of a pair of the list
rail_in : (ps : List nodes.Pair) (p : nodes.Pair) (one : Bool) → Contains ps p → Contains (nodes.rails_of ps) (node_of p one)
rail_in [] p one among = absurd (none_among p among)
rail_in (q ∷ ps) p one among = by (among_cases q ps p among) (rail_in ps p one)
  where
    here : (one : Bool) → Contains (nodes.rails_of (q ∷ ps)) (node_of q one)
    here true = (0, omega arith, refl)
    here false = (1, omega arith, refl)

    by : (q ≡ p) ⊎ Contains ps p → (Contains ps p → Contains (nodes.rails_of ps) (node_of p one)) → Contains (nodes.rails_of (q ∷ ps)) (node_of p one)
    by (inl z) rest = subst (λ (z : nodes.Pair). Contains (nodes.rails_of (q ∷ ps)) (node_of z one)) z (here one)
    by (inr there) rest = Contains-append_right (q.t ∷ q.f ∷ []) (nodes.rails_of ps) (node_of p one) (rest there)

module _ (bits : ℕ → List nodes.Pair) (e : Formula) (request from : ℕ) (apart : StandsApart bits e request from) (vars : List Var)
    (reads_from : ReadsFrom vars e) (has : HasBits vars bits) (known : Waves e) (listed : Listed vars e)
    (wide : length (formula_result e from) ≡ width_of e) (sized : length (formula_rules bits e request from) ≡ formula_size e)
    (size : formula_size e ≡ 2 * gate_count e) where
  abbrev n : ℕ
  n = gate_count e

  abbrev at : (ℕ → Bool) → Pairs n
  at v = pairs_at v from n

  -- the rails of the variables, and those that the expression reads: of others none is seen
  abbrev raw : (ℕ → Bool) → ℕ → Rails
  raw v x i one = v (node_of (nodes.pair_of (bits x) i) one)

  abbrev now : (ℕ → Bool) → ℕ → Rails
  now v x i one = reads_bit x i e && raw v x i one

  abbrev rules : List NodeRules
  rules = formula_rules bits e request from

  abbrev result : List nodes.Pair
  result = formula_result e from

  abbrev read : List nodes.Pair
  read = bits_read bits e

  abbrev part : Part
  part = expression_part bits e request from

  abbrev rail : ℕ → ℕ → Bool → ℕ
  rail x i one = node_of (nodes.pair_of (bits x) i) one

  abbrev rule_fires : (ℕ → Bool) → ℕ → Bool → Bool
  rule_fires v k one = one_rule_fires (gate_rule e (now v) (v request) (at v) k one)

  -- the rails that are read are other nodes
  among : (x i : ℕ) → reads_bit x i e ≡ true → Contains read (nodes.pair_of (bits x) i)
  among x i h = among_read bits e x i (each_at _ e x i apart.there h) h

  request_apart : (k : ℕ) → k < formula_size e → request ≢ from + k
  request_apart = All-head (IsOutside from (formula_size e)) request (nodes.rails_of read) apart.outside

  rail_apart : (x i : ℕ) (one : Bool) → reads_bit x i e ≡ true → (k : ℕ) → k < formula_size e → rail x i one ≢ from + k
  rail_apart x i one h =
      All-contains (IsOutside from (formula_size e)) (nodes.rails_of read) (rail x i one)
      (All-tail (IsOutside from (formula_size e)) request (nodes.rails_of read) apart.outside) (rail_in read (nodes.pair_of (bits x) i) one (among x i h))

  rail_asked : (x i : ℕ) (one : Bool) → reads_bit x i e ≡ true → rail x i one ≢ request
  rail_asked x i one h =
      All-contains (λ n. n ≢ request) (nodes.rails_of read) (rail x i one) apart.unasked (rail_in read (nodes.pair_of (bits x) i) one (among x i h))

  seen : (v : ℕ → Bool) (x i : ℕ) (one : Bool) → reads_bit x i e ≡ true → now v x i one ≡ v (rail x i one)
  seen v x i one h = ap (λ b. b && v (rail x i one)) h

  now_same : (v w : ℕ → Bool) → ((x i : ℕ) (one : Bool) → reads_bit x i e ≡ true → v (rail x i one) ≡ w (rail x i one)) → (x i : ℕ) (one : Bool)
      → now v x i one ≡ now w x i one
  now_same v w f x i one = and_same (reads_bit x i e) (λ h. f x i one h)

  shown : (v : ℕ → Bool) → EachRead (λ x i. (one : Bool) → now v x i one ≡ raw v x i one) e
  shown v = each_from _ e (λ x i h one. seen v x i one h)

  valued : (v : ℕ → Bool) → Valued vars bits e request from v (v request) (raw v) (at v)
  valued v = record { asked = refl; gates = λ k one l. side_at v from n k one l; read = λ x i one h l. refl }

  agrees : (v : ℕ → Bool) (i : ℕ) (one : Bool) → i < length result → v (node_of (nodes.pair_of result i) one) ≡ out_rail e (at v) i one
  agrees v i one l = listed.outputs bits request from v (v request) (raw v) (at v) (valued v) i one (omega (arith, l, wide))

  lows_are : (v : ℕ → Bool) → all_low v (nodes.rails_of result) ≡ empty e (at v)
  lows_are v = low_is v result (out_rail e (at v)) (agrees v) ∙ ap (λ k. neutral_on k (out_rail e (at v))) wide

  valid_are : (v : ℕ → Bool) → list_all (is_valid v) result ≡ full e (at v)
  valid_are v = valid_is v result (out_rail e (at v)) (agrees v) ∙ ap (λ k. is_some (value_on k (out_rail e (at v)))) wide

  spot : (o : Owned) → Contains part.own o → Spot rules from n o
  spot o among = spot_of rules from n o (sized ∙ size) among

  told_at : (v : ℕ → Bool) (k : ℕ) (one : Bool) → k < n → Told v (from + rail_place k one) (get_or rules (rail_place k one) nodes.no_rules)
      (gate_rule e (now v) (v request) (at v) k one)
  told_at v k one l =
      subst (Told v (from + rail_place k one) (get_or rules (rail_place k one) nodes.no_rules))
      (sym ((read_alone e apart.formed (v request) (now v) (raw v) (at v) (shown v)).1 k one))
      (listed.told bits has request from v (v request) (raw v) (at v) (valued v) k one l)

  own_fires : (v : ℕ → Bool) (o : Owned) (s : Spot rules from n o) → parts.fires v o ≡ rule_fires v s.gate s.one
  own_fires v o s =
      ap (λ (k : ℕ). parts.fires v (owned k o.rules)) s.node
      ∙ (ap (λ (z : NodeRules). parts.fires v (owned (from + rail_place s.gate s.one) z)) s.rules_are
      ∙ fires_told v (from + rail_place s.gate s.one) (get_or rules (rail_place s.gate s.one) nodes.no_rules)
      (gate_rule e (now v) (v request) (at v) s.gate s.one) (told_at v s.gate s.one s.below))

  -- what every move keeps
  abbrev Shown : (ℕ → Bool) → Type 0
  Shown v = (x i : ℕ) → reads_bit x i e ≡ true → (now v x i true || now v x i false) ≡ true

  abbrev Holds : (ℕ → Bool) → Type 0
  Holds v = Single (now v) × (good (v request) (now v) e (at v) ≡ true) × (v request ≡ true → Shown v)

  stands_by : (v w : ℕ → Bool) (q : Bool) (u : Pairs n) → w request ≡ q → at w ≡ u → ((x i : ℕ) (one : Bool) → now v x i one ≡ now w x i one) → Single (now v)
      → good q (now v) e u ≡ true → (q ≡ true → Shown v) → Holds w
  stands_by v w q u hq hu f s g y = (
    λ x i. ap (λ b. not (b && now w x i false)) (sym (f x i true)) ∙ (ap (λ b. not (now v x i true && b)) (sym (f x i false)) ∙ s x i),
    ap (λ z. good z (now w) e (at w)) hq ∙ (ap (λ (z : Pairs n). good q (now w) e z) hu
        ∙ (sym (known.unread q (now v) (now w) u (λ x i one h. f x i one)).0 ∙ g)),
    λ k x i h. ap (λ b. b || now w x i false) (sym (f x i true)) ∙ (ap (λ b. now v x i true || b) (sym (f x i false)) ∙ y (sym hq ∙ k) x i h),
  )

  rule_at : (v w : ℕ → Bool) (q : Bool) (u : Pairs n) → w request ≡ q → at w ≡ u → ((x i : ℕ) (one : Bool) → now v x i one ≡ now w x i one)
      → (k : ℕ) (one : Bool) → rule_fires w k one ≡ one_rule_fires (gate_rule e (now v) q u k one)
  rule_at v w q u hq hu f k one =
      ap (λ z. one_rule_fires (gate_rule e (now w) z (at w) k one)) hq ∙ (ap (λ (z : Pairs n). one_rule_fires (gate_rule e (now w) q z k one)) hu
      ∙ ap one_rule_fires (sym ((known.unread q (now v) (now w) u (λ x i one h. f x i one)).1 k one)))

  -- an own move
  own_place : (k : ℕ) (one : Bool) → k < n → rail_place k one < formula_size e
  own_place k one l = omega (arith, size, place_below k n one l)

  own_request : (v : ℕ → Bool) (k : ℕ) (one : Bool) → k < n → turned v (from + rail_place k one) request ≡ v request
  own_request v k one l = turned_apart v (from + rail_place k one) request (request_apart (rail_place k one) (own_place k one l))

  own_now : (v : ℕ → Bool) (k : ℕ) (one : Bool) → k < n → (x i : ℕ) (side : Bool) → now v x i side ≡ now (turned v (from + rail_place k one)) x i side
  own_now v k one l = now_same v (turned v (from + rail_place k one))
      (λ x i side h. sym (turned_apart v (from + rail_place k one) (rail x i side) (rail_apart x i side h (rail_place k one) (own_place k one l))))

  own_holds : (v : ℕ → Bool) (k : ℕ) (one : Bool) → k < n → Holds v → rule_fires v k one ≡ true → Holds (turned v (from + rail_place k one))
  own_holds v k one l h f =
      stands_by v (turned v (from + rail_place k one)) (v request) (turned_pairs n (at v) k one) (own_request v k one l) (pairs_turned v from n k one l)
      (own_now v k one l)
      h.0 (known.own (v request) (now v) (at v) k one h.0 h.1 f) h.2

  -- the request's move
  ask_at : (v : ℕ → Bool) → at (turned v request) ≡ at v
  ask_at v = pairs_same (turned v request) v from n (λ j l. turned_apart v request (from + j) (λ z. request_apart j (omega (arith, size, l)) (sym z)))

  ask_now : (v : ℕ → Bool) (x i : ℕ) (one : Bool) → now v x i one ≡ now (turned v request) x i one
  ask_now v = now_same v (turned v request) (λ x i one h. sym (turned_apart v request (rail x i one) (rail_asked x i one h)))

  valid_read : (v : ℕ → Bool) → list_all (is_valid v) read ≡ true → Shown v
  valid_read v h x i k =
      let p = nodes.pair_of (bits x) i in
      ap (λ b. b || now v x i false) (seen v x i true k) ∙ (ap (λ b. v (rail x i true) || b) (seen v x i false k)
      ∙ valid_some (v p.t) (v p.f) (all_at (is_valid v) read p h (among x i k)))

  abbrev may_ask : (ℕ → Bool) → Bool
  may_ask v = if v request then list_all (is_valid v) result else (all_low v (nodes.rails_of result) && list_all (is_valid v) read)

  asks_low : (v : ℕ → Bool) → v request ≡ false → may_ask v ≡ true → (empty e (at v) ≡ true) × (list_all (is_valid v) read ≡ true)
  asks_low v z may =
      let both : (all_low v (nodes.rails_of result) && list_all (is_valid v) read) ≡ true =
      ap (λ b. if b then list_all (is_valid v) result else (all_low v (nodes.rails_of result) && list_all (is_valid v) read)) (sym z) ∙ may in (
        sym (lows_are v) ∙ left_of (all_low v (nodes.rails_of result)) (list_all (is_valid v) read) both,
        right_of (all_low v (nodes.rails_of result)) (list_all (is_valid v) read) both,
      )

  asks_full : (v : ℕ → Bool) → v request ≡ true → may_ask v ≡ true → full e (at v) ≡ true
  asks_full v z may =
      sym (valid_are v) ∙ (ap (λ b. if b then list_all (is_valid v) result else (all_low v (nodes.rails_of result) && list_all (is_valid v) read)) (sym z)
      ∙ may)

  good_at : (v : ℕ → Bool) (q : Bool) → v request ≡ q → good (v request) (now v) e (at v) ≡ true → good q (now v) e (at v) ≡ true
  good_at v q z g = ap (λ b. good b (now v) e (at v)) (sym z) ∙ g

  ask_holds : (v : ℕ → Bool) → Holds v → may_ask v ≡ true → Holds (turned v request)
  ask_holds v h may = cases (v request)
      (λ z. stands_by v (turned v request) false (at v) (turned_here v request ∙ ap not z) (ask_at v) (ask_now v) h.0
      (known.ease (now v) (at v) h.0 (good_at v true z h.1) (asks_full v z may)) (λ k. absurd (cc k)))
      (λ z. let a = asks_low v z may in
      let low = known.inner_empty (now v) (at v) (good_at v false z h.1) a.0 in
      stands_by v (turned v request) true (at v) (turned_here v request ∙ ap not z) (ask_at v) (ask_now v) h.0
      (ap (λ (u : Pairs n). good true (now v) e u) low ∙ known.begins (now v)) (λ k. valid_read v a.1))

  -- a move of a variable's rail
  module _ (v : ℕ → Bool) (x i : ℕ) (one : Bool) (h : reads_bit x i e ≡ true) where
    abbrev moving : ℕ
    moving = rail x i one

    bit_at : at (turned v moving) ≡ at v
    bit_at = pairs_same (turned v moving) v from n (λ j k. turned_apart v moving (from + j) (λ z. rail_apart x i one h j (omega (arith, size, k)) (sym z)))

    bit_request : turned v moving request ≡ v request
    bit_request = turned_apart v moving request (λ z. rail_asked x i one h (sym z))

    same_pair : (y j : ℕ) (t : Bool) → reads_bit y j e ≡ true → rail y j t ≡ moving → (v moving ≡ false → v (rail x i (not one)) ≡ false)
        → (turned v moving (rail y j t) && turned v moving (rail y j (not t))) ≡ false
    same_pair y j t k is m =
        let p = nodes.pair_of (bits y) j in
        let q = nodes.pair_of (bits x) i in
        let z = apart.distinct p q t one (among y j k) (among x i h) is in
        let here : turned v moving (rail y j t) ≡ not (v moving) = ap (turned v moving) is ∙ turned_here v moving in
        let there : turned v moving (rail y j (not t)) ≡ v (rail y j (not t)) =
        turned_apart v moving (rail y j (not t)) (λ s. other t (z.1 ∙ sym (apart.distinct p q (not t) one (among y j k) (among x i h) s).1)) in
        let other_is : rail y j (not t) ≡ rail x i (not one) = ap (λ (c : nodes.Pair). node_of c (not t)) z.0 ∙ ap (λ c. node_of q (not c)) z.1 in
        ap (λ b. b && turned v moving (rail y j (not t))) here ∙ (ap (λ b. not (v moving) && b) there
        ∙ done (v moving) (v (rail y j (not t))) (λ s. ap v other_is ∙ m s))
      where
        other : (t : Bool) → t ≡ not t → ⊥
        other true q = cc q
        other false q = cc q

        done : (a b : Bool) → (a ≡ false → b ≡ false) → (not a && b) ≡ false
        done true b f = refl
        done false b f = f refl

    swap : (a b : Bool) → (a && b) ≡ false → (b && a) ≡ false
    swap true true q = q
    swap true false q = refl
    swap false true q = refl
    swap false false q = refl

    bit_pair : (y j : ℕ) → reads_bit y j e ≡ true → (v moving ≡ false → v (rail x i (not one)) ≡ false) → Single (now v)
        → (turned v moving (rail y j true) && turned v moving (rail y j false)) ≡ false
    bit_pair y j k m s = cases (rail y j true == moving)
        (λ q. same_pair y j true k (eq_from (rail y j true) moving q) m)
        (λ q. cases (rail y j false == moving)
        (λ z. swap (turned v moving (rail y j false)) (turned v moving (rail y j true)) (same_pair y j false k (eq_from (rail y j false) moving z) m))
        (λ z.
        ap (λ b. b && turned v moving (rail y j false)) (turned_apart v moving (rail y j true) (differs (rail y j true) moving q))
        ∙ (ap (λ b. v (rail y j true) && b) (turned_apart v moving (rail y j false) (differs (rail y j false) moving z))
        ∙ (ap (λ b. b && v (rail y j false)) (sym (seen v y j true k))
        ∙ (ap (λ b. now v y j true && b) (sym (seen v y j false k)) ∙ not_both (now v y j true) (now v y j false) (s y j))))))
      where
        differs : (a b : ℕ) → (a == b) ≡ false → a ≢ b
        differs a b q z = absurd (differ a b q z)
          where
            differ : (a b : ℕ) → (a == b) ≡ false → a ≡ b → ⊥
            differ a b q z = grind (arith, nat_tests)

    bit_one : (v moving ≡ false → v (rail x i (not one)) ≡ false) → Single (now v) → Single (now (turned v moving))
    bit_one m s y j = cases (reads_bit y j e)
        (λ k. ap (λ b. not (b && now (turned v moving) y j false)) (seen (turned v moving) y j true k)
        ∙ (ap (λ b. not (turned v moving (rail y j true) && b)) (seen (turned v moving) y j false k) ∙ ap not (bit_pair y j k m s)))
        (λ k. ap (λ b. not ((b && turned v moving (rail y j true)) && now (turned v moving) y j false)) k)

    bit_holds : v request ≡ false → (v moving ≡ false → v (rail x i (not one)) ≡ false) → Holds v → Holds (turned v moving)
    bit_holds z m s = (
      bit_one m s.0,
      ap (λ b. good b (now (turned v moving)) e (at (turned v moving))) (bit_request ∙ z)
          ∙ (ap (λ (u : Pairs n). good false (now (turned v moving)) e u) bit_at
          ∙ (sym (known.asleep (now v) (now (turned v moving)) (at v)).0 ∙ good_at v false z s.1)),
      λ k. absurd (cc (k, bit_request, z)),
    )

    bit_rule : v request ≡ false → (k : ℕ) (side : Bool) → rule_fires (turned v moving) k side ≡ rule_fires v k side
    bit_rule z k side =
        ap (λ b. one_rule_fires (gate_rule e (now (turned v moving)) b (at (turned v moving)) k side)) (bit_request ∙ z)
        ∙ (ap (λ (u : Pairs n). one_rule_fires (gate_rule e (now (turned v moving)) false u k side)) bit_at
        ∙ (ap one_rule_fires (sym ((known.asleep (now v) (now (turned v moving)) (at v)).1 k side))
        ∙ ap (λ b. one_rule_fires (gate_rule e (now v) b (at v) k side)) (sym z)))

  -- a neighbour's move
  pub data Beside (v : ℕ → Bool) (node : ℕ) : Type 0 where
    asking : node ≡ request → may_ask v ≡ true → Beside v node
    of_bit : (x i : ℕ) (one : Bool) → reads_bit x i e ≡ true → node ≡ rail x i one → v request ≡ false
        → (v (rail x i one) ≡ false → v (rail x i (not one)) ≡ false) → Beside v node

  free : (r b o : Bool) → (if b then not r else (not r && not o)) ≡ true → (r ≡ false) × (b ≡ false → o ≡ false)
  free true true o h = absurd (cc h)
  free true false o h = absurd (cc h)
  free false true o h = (refl, λ z. absurd (cc z))
  free false false true h = absurd (cc h)
  free false false false h = (refl, λ z. refl)

  beside : (m : Moment) (node : ℕ) (w : Wire) → Contains part.allows w → may_move m w ≡ true → node ≡ w.node → Beside m.value node
  beside m node w among may is = by (among_cases ask (variable_wires request read) w among)
    where
      ask : Wire
      ask = wire request (λ m. all_low m.value (nodes.rails_of result) && list_all (is_valid m.value) read) (λ m. list_all (is_valid m.value) result)

      by : (wire request (λ m. all_low m.value (nodes.rails_of result) && list_all (is_valid m.value) read) (λ m. list_all (is_valid m.value) result) ≡ w) ⊎
          Contains (variable_wires request read) w → Beside m.value node
      by (inl z) = asking (is ∙ ap (λ (w : Wire). w.node) (sym z)) (subst (λ (w : Wire). may_move m w ≡ true) (sym z) may)
      by (inr here) =
          let vw = variable_among request read w here in
          let rb = read_among bits e vw.pair apart.formed vw.among in
          let f = free (m.value request) (m.value (node_of vw.pair vw.one)) (m.value (node_of vw.pair (not vw.one)))
          (subst (λ (w : Wire). may_move m w ≡ true) (sym vw.is) may) in
          let at_pair = λ (t : Bool). ap (λ (p : nodes.Pair). node_of p t) rb.is in
          of_bit rb.var rb.bit vw.one rb.read
          (is ∙ (ap (λ (w : Wire). w.node) (sym vw.is) ∙ sym (at_pair vw.one))) f.0
          (λ z. ap m.value (at_pair (not vw.one)) ∙ f.1 (ap m.value (sym (at_pair vw.one)) ∙ z))

  holds_move : (m : Moment) (node : ℕ) → Holds m.value → IsMove part m node → Holds (turned m.value node)
  holds_move m node h (inl own) =
      let o = own.o in
      let z = spot o own.among in
      subst (λ (k : ℕ). Holds (turned m.value k)) (sym (own.at ∙ z.node)) (own_holds m.value z.gate z.one z.below h (sym (own_fires m.value o z) ∙ own.enabled))
  holds_move m node h (inr outer) = by (beside m node outer.w outer.among outer.may outer.at)
    where
      by : Beside m.value node → Holds (turned m.value node)
      by (asking is may) = subst (λ (k : ℕ). Holds (turned m.value k)) (sym is) (ask_holds m.value h may)
      by (of_bit x i one k is low f) = subst (λ (k : ℕ). Holds (turned m.value k)) (sym is) (bit_holds m.value x i one k low f h)

  -- no gate moves where a request may
  asks_quiet : (v : ℕ → Bool) → Holds v → may_ask v ≡ true → (k : ℕ) (one : Bool) → rule_fires v k one ≡ false
  asks_quiet v h may k one = cases (v request)
      (λ z. ap (λ b. one_rule_fires (gate_rule e (now v) b (at v) k one)) z ∙ known.quiet_full (now v) (at v) h.0 (good_at v true z h.1) (asks_full v z may) k
      one)
      (λ z. let low = known.inner_empty (now v) (at v) (good_at v false z h.1) (asks_low v z may).0 in
      ap (λ b. one_rule_fires (gate_rule e (now v) b (at v) k one)) z ∙ (ap (λ (u : Pairs n). one_rule_fires (gate_rule e (now v) false u k one)) low
      ∙ known.quiet_low (now v) k one))

  firm : (m : Moment) → Holds m.value → (o : Owned) → Contains part.own o → parts.fires m.value o ≡ true → (node : ℕ) → IsMove part m node → node ≢ o.node
      → parts.fires (turned m.value node) o ≡ true
  firm m h o among f node (inl own) ne =
      let v = m.value in
      let a = spot o among in
      let b = spot own.o own.among in
      let is : node ≡ from + rail_place b.gate b.one = own.at ∙ b.node in
      let w = turned v (from + rail_place b.gate b.one) in
      let apart_they : a.gate ≡ b.gate → a.one ≡ b.one → ⊥ =
      λ p q. absurd (ne (is ∙ (ap (λ k. from + rail_place k b.one) (sym p) ∙ (ap (λ c. from + rail_place a.gate c) (sym q) ∙ sym a.node)))) in
      subst (λ (k : ℕ). parts.fires (turned v k) o ≡ true) (sym is)
      (own_fires w o a
      ∙ (rule_at v w (v request) (turned_pairs n (at v) b.gate b.one) (own_request v b.gate b.one b.below) (pairs_turned v from n b.gate b.one b.below)
      (own_now v b.gate b.one b.below) a.gate a.one
      ∙ known.firm (v request) (now v) (at v) b.gate b.one a.gate a.one h.0 apart_they h.1 (sym (own_fires v own.o b) ∙ own.enabled)
      (sym (own_fires v o a) ∙ f)))
  firm m h o among f node (inr outer) ne = by (beside m node outer.w outer.among outer.may outer.at)
    where
      by : Beside m.value node → parts.fires (turned m.value node) o ≡ true
      by (asking is may) = let a = spot o among in absurd (cc (asks_quiet m.value h may a.gate a.one, own_fires m.value o a, f))
      by (of_bit x i one k is low g) =
          let a = spot o among in
          let w = turned m.value (rail x i one) in
          subst (λ (k : ℕ). parts.fires (turned m.value k) o ≡ true) (sym is)
          (own_fires w o a ∙ (bit_rule m.value x i one k low a.gate a.one ∙ (sym (own_fires m.value o a) ∙ f)))

  never_both : (m : Moment) → Holds m.value → (o : Owned) → Contains part.own o → (guard_holds m.value o.rules.up && guard_holds m.value o.rules.down) ≡ false
  never_both m h o among =
      let v = m.value in
      let a = spot o among in
      let t = told_at v a.gate a.one a.below in
      let up = ap (λ (z : NodeRules). guard_holds v z.up) a.rules_are ∙ t.up in
      let down = ap (λ (z : NodeRules). guard_holds v z.down) a.rules_are ∙ t.down in
      ap (λ b. b && guard_holds v o.rules.down) up ∙ (ap (λ b. (gate_rule e (now v) (v request) (at v) a.gate a.one).up && b) down
      ∙ not_true _ (known.apart (v request) (now v) (at v) a.gate a.one h.0 h.1))

  -- the rails of the result
  rail_turns : (v : ℕ → Bool) (k : ℕ) (side : Bool) → k < n → (i : ℕ) (one : Bool) → i < length result
      → node_of (nodes.pair_of result i) one ≡ from + rail_place k side
      → out_rail e (turned_pairs n (at v) k side) i one ≡ not (v (node_of (nodes.pair_of result i) one))
  rail_turns v k side l i one b is =
      let w = turned v (from + rail_place k side) in
      let N = node_of (nodes.pair_of result i) one in
      ap (λ (u : Pairs n). out_rail e u i one) (sym (pairs_turned v from n k side l))
      ∙ (sym (agrees w i one b) ∙ (ap w is ∙ (turned_here v (from + rail_place k side) ∙ ap (λ z. not (v z)) (sym is))))

  abbrev value_rail : (ℕ → Bool) → ℕ → Bool → Bool
  value_rail v i one = same_bit one (value_seen bits e v / 2 ^ i % 2 == 1)

  -- the value over the rails that are seen is that over all rails of the variables
  value_is : (v : ℕ → Bool) → value_seen bits e v ≡ value (store_of vars (now v)) e
  value_is v = value_same (λ x. length (bits x)) (var_width vars) (raw v) (now v) e apart.formed (each_from _ e (λ x i h. (
    each_at _ e x i apart.there h,
    within x i h,
    sym (seen v x i true h),
  )))
    where
      within : (x i : ℕ) → reads_bit x i e ≡ true → i < var_width vars x
      within x i h = bits_within vars e apart.formed reads_from x i h

  promised_at : (v : ℕ → Bool) → Holds v → (k : ℕ) (side : Bool) → k < n → rule_fires v k side ≡ true → (i : ℕ) (one : Bool) → i < length result
      → node_of (nodes.pair_of result i) one ≡ from + rail_place k side
      → (if v (node_of (nodes.pair_of result i) one) then not (v request) else (v request && value_rail v i one)) ≡ true
  promised_at v h k side l f i one b is =
      let u = turned_pairs n (at v) k side in
      let N = node_of (nodes.pair_of result i) one in
      let turns = rail_turns v k side l i one b is in
      let before = agrees v i one b in
      cases (v N)
      (λ z. ap (λ c. if c then not (v request) else (v request && value_rail v i one)) z
      ∙ ap not (never_true (v request) (λ q. cc (
        known.rises (now v) (at v) k side h.0 (good_at v true q h.1)
            (ap (λ c. one_rule_fires (gate_rule e (now v) c (at v) k side)) (sym q) ∙ f) i one (sym before ∙ z),
        turns,
        z,
      ))))
      (λ z. ap (λ c. if c then not (v request) else (v request && value_rail v i one)) z
      ∙ cases (v request)
      (λ q. let right = ap (λ k. k / 2 ^ i % 2 == 1) (value_is v)
      ∙ known.right vars (now v) u reads_from h.0 (known.own true (now v) (at v) k side h.0 (good_at v true q h.1)
      (ap (λ c. one_rule_fires (gate_rule e (now v) c (at v) k side)) (sym q) ∙ f)) i one (turns ∙ ap not z) in
      ap (λ c. c && value_rail v i one) q ∙ (ap (same_bit one) right ∙ same_self one))
      (λ q. absurd (cc (
        known.falls (now v) (at v) k side h.0 (good_at v false q h.1) (ap (λ c. one_rule_fires (gate_rule e (now v) c (at v) k side)) (sym q) ∙ f) i one
            (turns ∙ ap not z),
        before,
        z,
      ))))

  promised : (m : Moment) → Holds m.value → (o : Owned) → Contains part.own o → parts.fires m.value o ≡ true → (w : Wire) → Contains part.promises w
      → w.node ≡ o.node → may_move m w ≡ true
  promised m h o among f w here is =
      let v = m.value in
      let a = spot o among in
      let rw = rail_among request (value_seen bits e) 0 result w here in
      let z : 0 + rw.bit ≡ rw.bit = omega arith in
      let same : value_wire request (value_seen bits e) rw.bit (nodes.pair_of result rw.bit) rw.one ≡ w =
      ap (λ k. value_wire request (value_seen bits e) k (nodes.pair_of result rw.bit) rw.one) (sym z) ∙ rw.is in
      subst (λ (w : Wire). may_move m w ≡ true) same
      (promised_at v h a.gate a.one a.below (sym (own_fires v o a) ∙ f) rw.bit rw.one rw.below (ap (λ (w : Wire). w.node) same ∙ (is ∙ a.node)))

  -- at rest
  own_low : (v : ℕ → Bool) → at v ≡ low_pairs n → all_low v part.lows ≡ true
  own_low v low = each_low v part.lows (λ k there.
      let (o, among, is) = among_mapped (λ (o : Owned). o.node) part.own k there in
      let a = spot o among in
      ap v (sym is ∙ a.node) ∙ (side_at v from n a.gate a.one a.below
      ∙ (ap (λ (u : Pairs n). side_of (pair_in n u a.gate) a.one) low ∙ low_side n a.gate a.one)))

  lows_low : (v : ℕ → Bool) → Holds v → all_low v part.ports ≡ true → all_low v part.lows ≡ true
  lows_low v h low =
      let z = not_true (v request) (left_of (not (v request)) (all_low v (nodes.rails_of result)) low) in
      own_low v (known.inner_empty (now v) (at v) (good_at v false z h.1)
      (sym (lows_are v) ∙ right_of (not (v request)) (all_low v (nodes.rails_of result)) low))

  still : (v : ℕ → Bool) → ((o : Owned) → Contains part.own o → parts.fires v o ≡ false) → (k : ℕ) (one : Bool) → rule_fires v k one ≡ false
  still v none k one = never_true (rule_fires v k one) (λ f.
      let l = known.there (v request) (now v) (at v) k one f in
      let j = own_place k one l in
      let o = owned (from + rail_place k one) (get_or rules (rail_place k one) nodes.no_rules) in
      let among = among_owned rules from (rail_place k one) (omega (arith, sized, j)) in
      cc (
        none o among,
        fires_told v (from + rail_place k one) (get_or rules (rail_place k one) nodes.no_rules) (gate_rule e (now v) (v request) (at v) k one)
            (told_at v k one l),
        f,
      ))

  abbrev ask_wire : Wire
  ask_wire = wire request (λ m. all_low m.value (nodes.rails_of result) && list_all (is_valid m.value) read) (λ m. list_all (is_valid m.value) result)

  -- at rest: the request may move, or it is low and a bit that is read isn't valid
  pub rests : (m : Moment) → Holds m.value → ((o : Owned) → Contains part.own o → parts.fires m.value o ≡ false) → ExpressionRests bits e request from m
  rests m h none = cases (v request) full_rests low_rests
    where
      v : ℕ → Bool
      v = m.value

      quiet : (q : Bool) → m.value request ≡ q → (k : ℕ) (one : Bool) → one_rule_fires (gate_rule e (now m.value) q (at m.value) k one) ≡ false
      quiet q z k one = ap (λ b. one_rule_fires (gate_rule e (now m.value) b (at m.value) k one)) (sym z) ∙ still m.value none k one

      full_rests : m.value request ≡ true → ExpressionRests bits e request from m
      full_rests z =
          let whole = rest_read e apart.formed (now m.value) (at m.value) (each_from _ e (λ x i k. h.2 z x i k)) (good_at m.value true z h.1) (quiet true z) in
          inl (ap (λ b. if b then list_all (is_valid m.value) result else (all_low m.value (nodes.rails_of result) && list_all (is_valid m.value) read)) z
          ∙ (valid_are m.value ∙ whole))

      low_rests : m.value request ≡ false → ExpressionRests bits e request from m
      low_rests z =
          let none_high = known.rest_down (now m.value) (at m.value) (good_at m.value false z h.1) (quiet false z) in
          cases (list_all (is_valid m.value) read)
          (λ q. inl (ap (λ b. if b then list_all (is_valid m.value) result else (all_low m.value (nodes.rails_of result) && list_all (is_valid m.value) read)) z
          ∙ both_of (all_low m.value (nodes.rails_of result)) (list_all (is_valid m.value) read) (lows_are m.value ∙ none_high) q))
          (λ q. inr (z, q))

  abbrev Waits : Moment → Type 0
  Waits m = (w : Wire) × Contains part.allows w × (may_move m w ≡ true)

  waits : (m : Moment) → Holds m.value → ((o : Owned) → Contains part.own o → parts.fires m.value o ≡ false) → Waits m
  waits m h none = by (rests m h none)
    where
      by : ExpressionRests bits e request from m → Waits m
      by (inl may) = (ask_wire, (0, omega arith, refl), may)
      by (inr (z, q)) =
          let (p, there, bad) = none_all (is_valid m.value) read q in
          let rb = read_among bits e p apart.formed there in
          let single : not (m.value p.t && m.value p.f) ≡ true =
          ap (λ b. not (b && m.value p.f)) (sym (seen m.value rb.var rb.bit true rb.read ∙ ap (λ (p : nodes.Pair). m.value p.t) rb.is))
          ∙ (ap (λ b. not (now m.value rb.var rb.bit true && b)) (sym (seen m.value rb.var rb.bit false rb.read ∙ ap (λ (p : nodes.Pair). m.value p.f) rb.is))
          ∙ h.0 rb.var rb.bit) in
          let lows = invalid_low (m.value p.t) (m.value p.f) single bad in (
            variable_wire request p true,
            Contains-append_right (ask_wire ∷ []) (variable_wires request read) (variable_wire request p true) (among_variable request read p true there),
            ap (λ b. if b then not (m.value request) else (not (m.value request) && not (m.value p.f))) lows.0
                ∙ (ap (λ b. not b && not (m.value p.f)) z ∙ ap not lows.1),
          )

  first : (v : ℕ → Bool) → IsFirstState part v → Holds v
  first v is = (
    λ x i. cases (reads_bit x i e)
        (λ k. ap (λ b. not (b && now v x i false)) (seen v x i true k ∙ bit_low x i true k))
        (λ k. ap (λ b. not ((b && v (rail x i true)) && now v x i false)) k),
    ap (λ b. good b (now v) e (at v)) request_low ∙ (ap (λ (u : Pairs n). good false (now v) e u) low ∙ known.idle (now v)),
    λ q. absurd (cc (q, request_low)),
  )
    where
      outside : all_low v (map (λ (w : Wire). w.node) part.allows) ≡ true
      outside = is.outside

      request_low : v request ≡ false
      request_low = low_at v (map (λ (w : Wire). w.node) part.allows) request is.outside (0, omega arith, refl)

      bit_low : (x i : ℕ) (one : Bool) → reads_bit x i e ≡ true → v (rail x i one) ≡ false
      bit_low x i one k =
          low_at v (map (λ (w : Wire). w.node) part.allows) (rail x i one) is.outside
          (mapped_among (λ (w : Wire). w.node) part.allows (variable_wire request (nodes.pair_of (bits x) i) one)
          (Contains-append_right (ask_wire ∷ []) (variable_wires request read) (variable_wire request (nodes.pair_of (bits x) i) one)
          (among_variable request read (nodes.pair_of (bits x) i) one (among x i k))))

      low : at v ≡ low_pairs n
      low = pairs_low v from n (λ j l.
          low_at v part.lows (from + j) is.own (mapped_among (λ (o : Owned). o.node) part.own (owned (from + j) (get_or rules j nodes.no_rules))
          (among_owned rules from j (omega (arith, sized, size, l)))))

  each_holds : (m : Moment) → Reached part m → Holds m.value
  each_holds = held_in_each part (λ m. Holds m.value) first (λ m node h move. holds_move m node h move)

  pub keeps : Keeps part
  keeps m reached =
      let h = each_holds m reached in record {
        promised = promised m h;
        firm = firm m h;
        apart = never_both m h;
        lows = lows_low m.value h;
        bits = λ q. refl;
        waits = λ none. inl (waits m h none);
      }

  pub at_rest : (m : Moment) → Reached part m → ((o : Owned) → Contains part.own o → parts.fires m.value o ≡ false) → ExpressionRests bits e request from m
  at_rest m reached none = rests m (each_holds m reached) none

  -- what the rails of the result say of the inner ones
  pub valid_inside : (m : Moment) → Reached part m → m.value request ≡ true → list_all (is_valid m.value) result ≡ true
      → list_all (is_valid m.value) (inner_bits e from) ≡ true
  valid_inside m reached z f =
      let v = m.value in
      let h = each_holds m reached in
      let whole : full e (at v) ≡ true = sym (valid_are v) ∙ f in
      each_valid v from n (λ k l. known.inner_full (now v) (at v) (good_at v true z h.1) whole k l)

  pub neutral_inside : (m : Moment) → Reached part m → m.value request ≡ false → all_low m.value (nodes.rails_of result) ≡ true
      → all_low m.value (nodes.rails_of (inner_bits e from)) ≡ true
  neutral_inside m reached z f =
      let v = m.value in
      let h = each_holds m reached in
      each_neutral v from n (known.inner_empty (now v) (at v) (good_at v false z h.1) (sym (lows_are v) ∙ f))

  pub value_told : (m : Moment) → Reached part m → m.value request ≡ true → list_all (is_valid m.value) result ≡ true
      → rail_value_of m.value (nodes.rails_of result) ≡ Some (value_seen bits e m.value)
  value_told m reached z f =
      let v = m.value in
      let h = each_holds m reached in
      let whole : full e (at v) ≡ true = sym (valid_are v) ∙ f in
      number_is v result (out_rail e (at v)) (agrees v)
      ∙ (ap (λ k. value_on k (out_rail e (at v))) wide
      ∙ (known.value_is vars (now v) (at v) reads_from h.0 (good_at v true z h.1) whole ∙ ap (λ (k : ℕ). Some k) (sym (value_is v))))

  pub rail_told : (m : Moment) → Reached part m → m.value request ≡ true → (i : ℕ) (one : Bool) → i < length result
      → m.value (node_of (nodes.pair_of result i) one) ≡ true → (value_seen bits e m.value / 2 ^ i % 2 == 1) ≡ one
  rail_told m reached z i one l f =
      let v = m.value in
      let h = each_holds m reached in
      ap (λ k. k / 2 ^ i % 2 == 1) (value_is v) ∙ known.right vars (now v) (at v) reads_from h.0 (good_at v true z h.1) i one (sym (agrees v i one l) ∙ f)

-- over variables that have these bits
module _ (bits : ℕ → List nodes.Pair) (e : Formula) (request from : ℕ) (apart : StandsApart bits e request from) where
  abbrev w : IsWellFormed e
  w = apart.formed

  abbrev over : List Var
  over = vars_over bits 0 (var_bound e)

  reads_over : ReadsFrom over e
  reads_over = over_reads bits (var_bound e) e w apart.there (omega arith)

  pub expression_keeps : Keeps (expression_part bits e request from)
  expression_keeps = keeps bits e request from apart over reads_over (over_bits bits (var_bound e)) (expression_holds e w) (listed over e w reads_over)
      (result_length e from w) (rules_length over bits (over_bits bits (var_bound e)) e request from w reads_over) (count_doubled e)

  pub all_valid_inside : (m : Moment) → Reached (expression_part bits e request from) m → m.value request ≡ true
      → list_all (is_valid m.value) (formula_result e from) ≡ true → list_all (is_valid m.value) (inner_bits e from) ≡ true
  all_valid_inside = valid_inside bits e request from apart over reads_over (over_bits bits (var_bound e)) (expression_holds e w) (listed over e w reads_over)
      (result_length e from w) (rules_length over bits (over_bits bits (var_bound e)) e request from w reads_over) (count_doubled e)

  pub all_neutral_inside : (m : Moment) → Reached (expression_part bits e request from) m → m.value request ≡ false
      → all_low m.value (nodes.rails_of (formula_result e from)) ≡ true → all_low m.value (nodes.rails_of (inner_bits e from)) ≡ true
  all_neutral_inside = neutral_inside bits e request from apart over reads_over (over_bits bits (var_bound e)) (expression_holds e w)
      (listed over e w reads_over) (result_length e from w) (rules_length over bits (over_bits bits (var_bound e)) e request from w reads_over)
      (count_doubled e)

  pub value_of_rails : (m : Moment) → Reached (expression_part bits e request from) m → m.value request ≡ true
      → list_all (is_valid m.value) (formula_result e from) ≡ true
      → rail_value_of m.value (nodes.rails_of (formula_result e from)) ≡ Some (value_seen bits e m.value)
  value_of_rails = value_told bits e request from apart over reads_over (over_bits bits (var_bound e)) (expression_holds e w) (listed over e w reads_over)
      (result_length e from w) (rules_length over bits (over_bits bits (var_bound e)) e request from w reads_over) (count_doubled e)

  pub value_of_rail : (m : Moment) → Reached (expression_part bits e request from) m → m.value request ≡ true → (i : ℕ) (one : Bool)
      → i < length (formula_result e from) → m.value (node_of (nodes.pair_of (formula_result e from) i) one) ≡ true
      → (value_seen bits e m.value / 2 ^ i % 2 == 1) ≡ one
  value_of_rail = rail_told bits e request from apart over reads_over (over_bits bits (var_bound e)) (expression_holds e w) (listed over e w reads_over)
      (result_length e from w) (rules_length over bits (over_bits bits (var_bound e)) e request from w reads_over) (count_doubled e)

  pub expression_rests : (m : Moment) → Reached (expression_part bits e request from) m
      → ((o : Owned) → Contains (owned_from from (formula_rules bits e request from)) o → parts.fires m.value o ≡ false) → ExpressionRests bits e request from m
  expression_rests = at_rest bits e request from apart over reads_over (over_bits bits (var_bound e)) (expression_holds e w) (listed over e w reads_over)
      (result_length e from w) (rules_length over bits (over_bits bits (var_bound e)) e request from w reads_over) (count_doubled e)
