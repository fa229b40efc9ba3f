-- The pairs of a state's nodes, and what lists of nodes say.
use Rattle.std.proofs.Common.{◌≡◌, ℕ, zero, suc, ◌+◌, ◌*◌, ◌<◌, Bool, true, false, List, [], ◌∷◌, length, get_or, Contains, refl, sym, ap, subst, ◌∙◌, arith, ◌⊎◌, inl, inr}
use Rattle.std.specs.Prelude.{not, ◌&&◌, ◌||◌, if◌then◌else◌, Option, Some, None, is_some}
use Rattle.std.specs.List.{list_all}
use Rattle.std.proofs.lemmas.List.Elements.{Contains-append_right}
use Rattle.prs_core.specs.Nets.{NodeRules}
use Rattle.prs_core.specs.Pairs as nodes
use Rattle.prs_core.specs.Moves.{guard_holds, bit_value, with_bit, rail_value_of}
use Rattle.prs_core.specs.Parts as parts
use Rattle.prs_core.specs.Parts.{Owned, owned, owned_from, Wire, turned, all_low, is_valid}
use Rattle.prs_core.specs.Turning.{turned_here, turned_apart, among_cases, none_among}
use Rattle.prs_core.specs.Deciding.{left_of, right_of, both_of}
use Rattle.function_blocks.specs.Rails.{levels_of, side_of, single, some, Pairs, low_pairs, pair_in, turned_pairs, Rule, one_rule_fires, Rails, value_on, neutral_on}
use Rattle.function_blocks.specs.Listed.{rail_place, node_of, Told}
use Rattle.function_blocks.specs.ExpressionParts.{value_wire, value_wires, variable_wire, variable_wires}

abbrev pub pairs_at : (v : ℕ → Bool) (from n : ℕ) → Pairs n
pairs_at v from zero = tt
pairs_at v from (suc n) = (levels_of (v from) (v (from + 1)), pairs_at v (from + 2) n)

pub place_below : (k n : ℕ) (one : Bool) → k < n → rail_place k one < 2 * n
place_below zero n true l = omega arith
place_below zero n false l = omega arith
place_below (suc k) zero one l = absurd (omega (arith, l))
place_below (suc k) (suc n) one l = omega (arith, place_below k n one (omega (arith, l)))

pub side_at : (v : ℕ → Bool) (from n k : ℕ) (one : Bool) → k < n → v (from + rail_place k one) ≡ side_of (pair_in n (pairs_at v from n) k) one
side_at v from zero k one l = absurd (omega (arith, l))
side_at v from (suc n) zero true l = let e : from + 0 ≡ from = omega arith in ap v e
side_at v from (suc n) zero false l = refl
side_at v from (suc n) (suc k) one l = let e : from + suc (suc (rail_place k one)) ≡ from + 2 + rail_place k one = omega arith in
    ap v e ∙ side_at v (from + 2) n k one (omega (arith, l))

pub pairs_same : (v w : ℕ → Bool) (from n : ℕ) → ((j : ℕ) → j < 2 * n → v (from + j) ≡ w (from + j)) → pairs_at v from n ≡ pairs_at w from n
pairs_same v w from zero f = refl
pairs_same v w from (suc n) f =
    let z : from ≡ from + 0 = omega arith in
    let a : v from ≡ w from = ap v z ∙ (f 0 (omega arith) ∙ ap w (sym z)) in
    let b : v (from + 1) ≡ w (from + 1) = f 1 (omega arith) in
    let c =
    pairs_same v w (from + 2) n (λ j l. let e : from + 2 + j ≡ from + (2 + j) = omega arith in ap v e ∙ (f (2 + j) (omega (arith, l)) ∙ ap w (sym e))) in
    ap (λ z. (levels_of z (v (from + 1)), pairs_at v (from + 2) n)) a
    ∙ (ap (λ z. (levels_of (w from) z, pairs_at v (from + 2) n)) b ∙ ap (λ (z : Pairs n). (levels_of (w from) (w (from + 1)), z)) c)

pub pairs_turned : (v : ℕ → Bool) (from n k : ℕ) (one : Bool) → k < n
    → pairs_at (turned v (from + rail_place k one)) from n ≡ turned_pairs n (pairs_at v from n) k one
pairs_turned v from zero k one l = absurd (omega (arith, l))
pairs_turned v from (suc n) zero true l =
    let node = from + 0 in
    let z : from ≡ node = omega arith in
    let a : turned v node from ≡ not (v from) = ap (turned v node) z ∙ (turned_here v node ∙ ap (λ k. not (v k)) (sym z)) in
    let b : turned v node (from + 1) ≡ v (from + 1) = turned_apart v node (from + 1) (λ e. omega (arith, e)) in
    let c = pairs_same (turned v node) v (from + 2) n (λ j l. turned_apart v node (from + 2 + j) (λ e. omega (arith, e))) in
    ap (λ z. (levels_of z (turned v node (from + 1)), pairs_at (turned v node) (from + 2) n)) a
    ∙ (ap (λ z. (levels_of (not (v from)) z, pairs_at (turned v node) (from + 2) n)) b ∙ ap (λ (z : Pairs n). (levels_of (not (v from)) (v (from + 1)), z)) c)
pairs_turned v from (suc n) zero false l =
    let node = from + 1 in
    let a : turned v node from ≡ v from = turned_apart v node from (λ e. omega (arith, e)) in
    let b : turned v node (from + 1) ≡ not (v (from + 1)) = turned_here v node in
    let c = pairs_same (turned v node) v (from + 2) n (λ j l. turned_apart v node (from + 2 + j) (λ e. omega (arith, e))) in
    ap (λ z. (levels_of z (turned v node (from + 1)), pairs_at (turned v node) (from + 2) n)) a
    ∙ (ap (λ z. (levels_of (v from) z, pairs_at (turned v node) (from + 2) n)) b ∙ ap (λ (z : Pairs n). (levels_of (v from) (not (v (from + 1))), z)) c)
pairs_turned v from (suc n) (suc k) one l =
    let node = from + suc (suc (rail_place k one)) in
    let other = from + 2 + rail_place k one in
    let z : node ≡ other = omega arith in
    let a : turned v node from ≡ v from = turned_apart v node from (λ e. omega (arith, e)) in
    let b : turned v node (from + 1) ≡ v (from + 1) = turned_apart v node (from + 1) (λ e. omega (arith, e)) in
    let c : pairs_at (turned v node) (from + 2) n ≡ turned_pairs n (pairs_at v (from + 2) n) k one =
    ap (λ z. pairs_at (turned v z) (from + 2) n) z ∙ pairs_turned v (from + 2) n k one (omega (arith, l)) in
    ap (λ z. (levels_of z (turned v node (from + 1)), pairs_at (turned v node) (from + 2) n)) a
    ∙ (ap (λ z. (levels_of (v from) z, pairs_at (turned v node) (from + 2) n)) b ∙ ap (λ (z : Pairs n). (levels_of (v from) (v (from + 1)), z)) c)

-- an own node is a rail of a gate
pub record Spot (rules : List NodeRules) (from n : ℕ) (o : Owned) : Type 0 where
  pub gate : ℕ
  pub one : Bool
  pub below : gate < n
  pub node : o.node ≡ from + rail_place gate one
  pub rules_are : o.rules ≡ get_or rules (rail_place gate one) nodes.no_rules

pub record Place (n j : ℕ) : Type 0 where
  pub gate : ℕ
  pub one : Bool
  pub below : gate < n
  pub is : rail_place gate one ≡ j

place_of : (n j : ℕ) → j < 2 * n → Place n j
place_of zero j l = absurd (omega (arith, l))
place_of (suc n) zero l = record { gate = zero; one = true; below = omega arith; is = refl }
place_of (suc n) (suc zero) l = record { gate = zero; one = false; below = omega arith; is = refl }
place_of (suc n) (suc (suc j)) l = let p = place_of n j (omega (arith, l)) in
    record { gate = suc p.gate; one = p.one; below = let b = p.below in omega (arith, b); is = ap (λ k. suc (suc k)) p.is }

pub record Numbered (rules : List NodeRules) (from : ℕ) (o : Owned) : Type 0 where
  pub at : ℕ
  pub below : at < length rules
  pub node : o.node ≡ from + at
  pub rules_are : o.rules ≡ get_or rules at nodes.no_rules

numbered : (rules : List NodeRules) (from : ℕ) (o : Owned) → Contains (owned_from from rules) o → Numbered rules from o
numbered [] from o among = absurd (none_among o among)
numbered (r ∷ rs) from o among = by (among_cases (owned from r) (owned_from (from + 1) rs) o among) (numbered rs (from + 1) o)
  where
    by : (owned from r ≡ o) ⊎ Contains (owned_from (from + 1) rs) o → (Contains (owned_from (from + 1) rs) o → Numbered rs (from + 1) o)
        → Numbered (r ∷ rs) from o
    by (inl e) rest = record {
      at = zero;
      below = omega arith;
      node = ap (λ (x : Owned). x.node) (sym e)
          ∙ (let z : from ≡ from + 0 = omega arith in z);
      rules_are = ap (λ (x : Owned). x.rules) (sym e);
    }
    by (inr here) rest =
        let m = rest here in
        record { at = suc m.at; below = let b = m.below in omega (arith, b); node = let b = m.node in omega (arith, b); rules_are = m.rules_are }

pub spot_of : (rules : List NodeRules) (from n : ℕ) (o : Owned) → length rules ≡ 2 * n → Contains (owned_from from rules) o → Spot rules from n o
spot_of rules from n o e among =
    let m = numbered rules from o among in
    let p = place_of n m.at (let b = m.below in omega (arith, b, e)) in
    record {
      gate = p.gate;
      one = p.one;
      below = p.below;
      node = m.node ∙ ap (λ k. from + k) (sym p.is);
      rules_are = m.rules_are
          ∙ ap (λ k. get_or rules k nodes.no_rules) (sym p.is);
    }

pub fires_told : (v : ℕ → Bool) (node : ℕ) (rules : NodeRules) (r : Rule) → Told v node rules r → parts.fires v (owned node rules) ≡ one_rule_fires r
fires_told v node rules r t =
    ap (λ b. if b then guard_holds v rules.down else guard_holds v rules.up) t.now
    ∙ (ap (λ b. if r.now then b else guard_holds v rules.up) t.down ∙ ap (λ b. if r.now then r.down else b) t.up)

-- what rails of a list say
valid_bit : (t f : Bool) (rest : Option ℕ) → ((t && not f || not t && f) && is_some rest) ≡ is_some (with_bit (bit_value t f) rest)
valid_bit true true rest = refl
valid_bit true false None = refl
valid_bit true false (Some n) = refl
valid_bit false true None = refl
valid_bit false true (Some n) = refl
valid_bit false false rest = refl

module _ (v : ℕ → Bool) where
  abbrev Agree : List nodes.Pair → Rails → Type 0
  Agree ps rail = (i : ℕ) (one : Bool) → i < length ps → v (node_of (nodes.pair_of ps i) one) ≡ rail i one

  agree_rest : (p : nodes.Pair) (ps : List nodes.Pair) (rail : Rails) → Agree (p ∷ ps) rail → Agree ps (λ i. rail (suc i))
  agree_rest p ps rail f i one l = f (suc i) one (omega (arith, l))

  pub low_is : (ps : List nodes.Pair) (rail : Rails) → Agree ps rail → all_low v (nodes.rails_of ps) ≡ neutral_on (length ps) rail
  low_is [] rail f = refl
  low_is (p ∷ ps) rail f =
      ap (λ b. not b && (not (v p.f) && all_low v (nodes.rails_of ps))) (f 0 true (omega arith))
      ∙ (ap (λ b. not (rail 0 true) && (not b && all_low v (nodes.rails_of ps))) (f 0 false (omega arith))
      ∙ (ap (λ b. not (rail 0 true) && (not (rail 0 false) && b)) (low_is ps (λ i. rail (suc i)) (agree_rest p ps rail f))
      ∙ regroup (not (rail 0 true)) (not (rail 0 false)) (neutral_on (length ps) (λ i. rail (suc i)))))
    where
      regroup : (a b c : Bool) → (a && (b && c)) ≡ ((a && b) && c)
      regroup true b c = refl
      regroup false b c = refl

  pub valid_is : (ps : List nodes.Pair) (rail : Rails) → Agree ps rail → list_all (is_valid v) ps ≡ is_some (value_on (length ps) rail)
  valid_is [] rail f = refl
  valid_is (p ∷ ps) rail f =
      ap (λ b. (b && not (v p.f) || not b && v p.f) && list_all (is_valid v) ps) (f 0 true (omega arith))
      ∙ (ap (λ b. (rail 0 true && not b || not (rail 0 true) && b) && list_all (is_valid v) ps) (f 0 false (omega arith))
      ∙ (ap (λ b. (rail 0 true && not (rail 0 false) || not (rail 0 true) && rail 0 false) && b) (valid_is ps (λ i. rail (suc i)) (agree_rest p ps rail f))
      ∙ valid_bit (rail 0 true) (rail 0 false) (value_on (length ps) (λ i. rail (suc i)))))

  pub number_is : (ps : List nodes.Pair) (rail : Rails) → Agree ps rail → rail_value_of v (nodes.rails_of ps) ≡ value_on (length ps) rail
  number_is [] rail f = refl
  number_is (p ∷ ps) rail f =
      ap (λ b. with_bit (bit_value b (v p.f)) (rail_value_of v (nodes.rails_of ps))) (f 0 true (omega arith))
      ∙ (ap (λ b. with_bit (bit_value (rail 0 true) b) (rail_value_of v (nodes.rails_of ps))) (f 0 false (omega arith))
      ∙ ap (with_bit (bit_value (rail 0 true) (rail 0 false))) (number_is ps (λ i. rail (suc i)) (agree_rest p ps rail f)))

  -- pairs of nodes one behind the other
  valid_pair : (t f : Bool) → ((t || f) && not (t && f)) ≡ true → (t && not f || not t && f) ≡ true
  valid_pair true true h = absurd (cc h)
  valid_pair true false h = refl
  valid_pair false true h = refl
  valid_pair false false h = absurd (cc h)

  pub each_valid : (from n : ℕ) → ((k : ℕ) → k < n → (some (pair_in n (pairs_at v from n) k) && single (pair_in n (pairs_at v from n) k)) ≡ true)
      → list_all (is_valid v) (nodes.pairs_from n from) ≡ true
  each_valid from zero f = refl
  each_valid from (suc n) f =
      both_of _ _ (valid_pair (v from) (v (from + 1)) (f 0 (omega arith))) (each_valid (from + 2) n (λ k l. f (suc k) (omega (arith, l))))

  pub each_neutral : (from n : ℕ) → pairs_at v from n ≡ low_pairs n → all_low v (nodes.rails_of (nodes.pairs_from n from)) ≡ true
  each_neutral from zero e = refl
  each_neutral from (suc n) e =
      both_of _ _ (ap (λ (u : Pairs (suc n)). not u.0.t) e)
      (both_of _ _ (ap (λ (u : Pairs (suc n)). not u.0.f) e) (each_neutral (from + 2) n (ap (λ (u : Pairs (suc n)). u.1) e)))

-- among the wires
pub record RailWire (request : ℕ) (number : (ℕ → Bool) → ℕ) (from : ℕ) (ps : List nodes.Pair) (w : Wire) : Type 0 where
  pub bit : ℕ
  pub one : Bool
  pub below : bit < length ps
  pub is : value_wire request number (from + bit) (nodes.pair_of ps bit) one ≡ w

pub rail_among : (request : ℕ) (number : (ℕ → Bool) → ℕ) (from : ℕ) (ps : List nodes.Pair) (w : Wire) → Contains (value_wires request number from ps) w
    → RailWire request number from ps w
rail_among request number from [] w among = absurd (none_among w among)
rail_among request number from (p ∷ ps) w among =
    first (among_cases (value_wire request number from p true) (value_wire request number from p false ∷ value_wires request number (suc from) ps) w among)
    (rail_among request number (suc from) ps w)
  where
    start : from ≡ from + 0
    start = omega arith

    next : (k : ℕ) → from + suc k ≡ suc from + k
    next k = omega arith

    second : (value_wire request number from p false ≡ w) ⊎ Contains (value_wires request number (suc from) ps) w
        → (Contains (value_wires request number (suc from) ps) w → RailWire request number (suc from) ps w) → RailWire request number from (p ∷ ps) w
    second (inl e) rest = record { bit = zero; one = false; below = omega arith; is = ap (λ k. value_wire request number k p false) (sym start) ∙ e }
    second (inr here) rest = let m = rest here in record {
      bit = suc m.bit;
      one = m.one;
      below = let b = m.below in omega (arith, b);
      is =
          ap (λ k. value_wire request number k (nodes.pair_of ps m.bit) m.one) (next m.bit) ∙ m.is;
    }

    first : (value_wire request number from p true ≡ w) ⊎ Contains (value_wire request number from p false ∷ value_wires request number (suc from) ps) w
        → (Contains (value_wires request number (suc from) ps) w → RailWire request number (suc from) ps w) → RailWire request number from (p ∷ ps) w
    first (inl e) rest = record { bit = zero; one = true; below = omega arith; is = ap (λ k. value_wire request number k p true) (sym start) ∙ e }
    first (inr here) rest = second (among_cases (value_wire request number from p false) (value_wires request number (suc from) ps) w here) rest

pub record VariableWire (request : ℕ) (ps : List nodes.Pair) (w : Wire) : Type 0 where
  pub pair : nodes.Pair
  pub one : Bool
  pub among : Contains ps pair
  pub is : variable_wire request pair one ≡ w

pub variable_among : (request : ℕ) (ps : List nodes.Pair) (w : Wire) → Contains (variable_wires request ps) w → VariableWire request ps w
variable_among request [] w among = absurd (none_among w among)
variable_among request (p ∷ ps) w among =
    first (among_cases (variable_wire request p true) (variable_wire request p false ∷ variable_wires request ps) w among) (variable_among request ps w)
  where
    second : (variable_wire request p false ≡ w) ⊎ Contains (variable_wires request ps) w → (Contains (variable_wires request ps) w → VariableWire request ps w)
        → VariableWire request (p ∷ ps) w
    second (inl e) rest = record { pair = p; one = false; among = (0, omega arith, refl); is = e }
    second (inr here) rest = let m = rest here in record { pair = m.pair; one = m.one; among = Contains-append_right (p ∷ []) ps m.pair m.among; is = m.is }

    first : (variable_wire request p true ≡ w) ⊎ Contains (variable_wire request p false ∷ variable_wires request ps) w
        → (Contains (variable_wires request ps) w → VariableWire request ps w) → VariableWire request (p ∷ ps) w
    first (inl e) rest = record { pair = p; one = true; among = (0, omega arith, refl); is = e }
    first (inr here) rest = second (among_cases (variable_wire request p false) (variable_wires request ps) w here) rest

pub among_variable : (request : ℕ) (ps : List nodes.Pair) (p : nodes.Pair) (one : Bool) → Contains ps p
    → Contains (variable_wires request ps) (variable_wire request p one)
among_variable request [] p one among = absurd (none_among p among)
among_variable request (q ∷ ps) p one among = by (among_cases q ps p among) (among_variable request ps p one)
  where
    at : (one : Bool) → Contains (variable_wires request (q ∷ ps)) (variable_wire request q one)
    at true = (0, omega arith, refl)
    at false = (1, omega arith, refl)

    by : (q ≡ p) ⊎ Contains ps p → (Contains ps p → Contains (variable_wires request ps) (variable_wire request p one))
        → Contains (variable_wires request (q ∷ ps)) (variable_wire request p one)
    by (inl e) rest = subst (λ (z : nodes.Pair). Contains (variable_wires request (q ∷ ps)) (variable_wire request z one)) e (at one)
    by (inr here) rest = Contains-append_right (variable_wire request q true ∷ variable_wire request q false ∷ []) (variable_wires request ps)
        (variable_wire request p one) (rest here)

-- all of a list, or not
pub all_at : {X : Type 0} (f : X → Bool) (xs : List X) (x : X) → list_all f xs ≡ true → Contains xs x → f x ≡ true
all_at f [] x h among = absurd (none_among x among)
all_at {X = X} f (y ∷ ys) x h among = by (among_cases y ys x among) (all_at f ys x (right_of (f y) _ h))
  where
    by : (y ≡ x) ⊎ Contains ys x → (Contains ys x → f x ≡ true) → f x ≡ true
    by (inl e) rest = ap f (sym e) ∙ left_of _ _ h
    by (inr here) rest = rest here

pub none_all : {X : Type 0} (f : X → Bool) (xs : List X) → list_all f xs ≡ false → (x : X) × Contains xs x × (f x ≡ false)
none_all f [] h = absurd (cc h)
none_all {X = X} f (y ∷ ys) h = by (f y) refl (none_all f ys)
  where
    by : (b : Bool) → f y ≡ b → (list_all f ys ≡ false → (x : X) × Contains ys x × (f x ≡ false)) → (x : X) × Contains (y ∷ ys) x × (f x ≡ false)
    by false e rest = (y, (0, omega arith, refl), e)
    by true e rest = let (x, here, is) = rest (sym (ap (λ b. b && list_all f ys) e) ∙ h) in (x, Contains-append_right (y ∷ []) ys x here, is)
