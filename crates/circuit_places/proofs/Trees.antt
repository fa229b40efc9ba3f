-- The completion tree over the ends of branches, by the values of its leaves and of its own nodes.
use Rattle.std.proofs.Common.{◌≡◌, ◌≢◌, ℕ, zero, suc, ◌+◌, ◌-◌, ◌<◌, ◌≤◌, ◌==◌, Bool, true, false, List, [], ◌∷◌, ◌++◌, length, get_or, All, Contains, refl, sym, ap, ◌∙◌, subst, inl, inr, ◌⊎◌, arith}
use Rattle.std.specs.Prelude.{not, nat_lt, ◌&&◌, ◌||◌, if◌then◌else◌}
use Rattle.std.specs.List.{range_with_len}
use Rattle.std.proofs.Math.Path.{fun_ext}
use Rattle.std.proofs.lemmas.Bool.{cases_eq, cases_lt, eq-eqb, ne_eqb}
use Rattle.std.proofs.lemmas.Bool.Decides.{nat_tests}
use Rattle.std.proofs.lemmas.List.{get_or_past}
use Rattle.std.proofs.lemmas.List.FromFn.{length-range_with_len, get_or-range_with_len}
use Rattle.std.proofs.lemmas.List.Elements.{All-contains, Contains-get_or, Contains-append_right}
use Rattle.prs_core.specs.Nets.{NodeRules}
use Rattle.prs_core.specs.Moves.{guard_holds}
use Rattle.prs_core.specs.Parts.{Owned, owned, owned_from, turned}
use Rattle.prs_core.specs.Parts as parts
use Rattle.prs_core.specs.Turning.{turned_here, turned_apart, among_cases, none_among}
use Rattle.cell_parallel.specs.Trees.{c_element, level_rules, next_level, levels_rules, tree_rules, tree_top, tree_owned}
use Rattle.cell_parallel.specs.TreeParts.{IsOutsideTree, AreOutside, IsTreeSettled, TreeMove, by_rule, of_leaf, Settles}
use Rattle.circuit_places.specs.Circuit.{Bits, low_bits, cell_bit, turned_bits, joint_count, tree_value, tree_answer, tree_node, tree_rule, one_rule_fires, is_apart}

abbrev no_guards : NodeRules
no_guards = record { up = []; down = [] }

-- each node of a tree is a C-element
data IsJoint (r : NodeRules) : Type 0 where
  is_joint : (p q : ℕ) → r ≡ c_element p q → IsJoint r
  is_none : r ≡ no_guards → IsJoint r

abbrev AreJoints : List NodeRules → Type 0
AreJoints [] = Unit {0}
AreJoints (r ∷ rs) = IsJoint r × AreJoints rs

joints_append : (rs ss : List NodeRules) → AreJoints rs → AreJoints ss → AreJoints (rs ++ ss)
joints_append [] ss h k = k
joints_append (r ∷ rs) ss h k = (h.0, joints_append rs ss h.1 k)

level_joints : (ls : List ℕ) → AreJoints (level_rules ls)
level_joints [] = tt
level_joints (p ∷ []) = tt
level_joints (p ∷ q ∷ ls) = (is_joint p q refl, level_joints ls)

levels_joints : (n : ℕ) (ls : List ℕ) (from : ℕ) → AreJoints (levels_rules n ls from)
levels_joints zero ls from = tt
levels_joints (suc n) ls from = joints_append (level_rules ls) (levels_rules n (next_level ls from) _) (level_joints ls)
    (levels_joints n (next_level ls from) _)

joint_of : (rs : List NodeRules) → AreJoints rs → (k : ℕ) → IsJoint (get_or rs k no_guards)
joint_of [] h k = is_none refl
joint_of (r ∷ rs) h zero = h.0
joint_of (r ∷ rs) h (suc k) = joint_of rs h.1 k

node_is : (n k : ℕ) → IsJoint (tree_node n k)
node_is n k = joint_of (tree_rules (range_with_len 0 n) n) (levels_joints (length (range_with_len 0 n)) (range_with_len 0 n) n) k

never_both : (p q : Bool) → not ((p && (q && true) || false) && (not p && (not q && true) || false)) ≡ true
never_both true true = refl
never_both true false = refl
never_both false q = refl

pub joint_apart : (n : ℕ) (leaf node : ℕ → Bool) (k : ℕ) → is_apart (tree_rule n leaf node k) ≡ true
joint_apart n leaf node k = here (node_is n k)
  where
    here : IsJoint (tree_node n k) → is_apart (tree_rule n leaf node k) ≡ true
    here (is_joint p q e) = ap (λ (r : NodeRules). not (guard_holds (tree_value n leaf node) r.up && guard_holds (tree_value n leaf node) r.down)) e
        ∙ never_both (tree_value n leaf node p) (tree_value n leaf node q)
    here (is_none e) = ap (λ (r : NodeRules). not (guard_holds (tree_value n leaf node) r.up && guard_holds (tree_value n leaf node) r.down)) e

-- where all is low no node moves
pub all_low_value : (n : ℕ) (leaf node : ℕ → Bool) → ((i : ℕ) → leaf i ≡ false) → ((i : ℕ) → node i ≡ false) → (k : ℕ) → tree_value n leaf node k ≡ false
all_low_value n leaf node l b k = here (nat_lt k n)
  where
    here : (t : Bool) → (if t then leaf k else node (k - n)) ≡ false
    here true = l k
    here false = b (k - n)

pub joint_quiet : (n : ℕ) (leaf node : ℕ → Bool) → ((i : ℕ) → leaf i ≡ false) → ((i : ℕ) → node i ≡ false) → (k : ℕ) →
    one_rule_fires (tree_rule n leaf node k) ≡ false
joint_quiet n leaf node l b k = ap (λ z. if z then guard_holds (tree_value n leaf node) (tree_node n k).down else guard_holds (tree_value n leaf node)
    (tree_node n k).up) (b k) ∙ here (node_is n k)
  where
    here : IsJoint (tree_node n k) → guard_holds (tree_value n leaf node) (tree_node n k).up ≡ false
    here (is_joint p q e) = ap (λ (r : NodeRules). guard_holds (tree_value n leaf node) r.up) e
        ∙ ap (λ z. z && (tree_value n leaf node q && true) || false) (all_low_value n leaf node l b p)
    here (is_none e) = ap (λ (r : NodeRules). guard_holds (tree_value n leaf node) r.up) e

-- behind the tree's nodes none moves
pub joint_absent : (n : ℕ) (leaf node : ℕ → Bool) (k : ℕ) → joint_count n ≤ k → one_rule_fires (tree_rule n leaf node k) ≡ false
joint_absent n leaf node k far =
    let e : tree_node n k ≡ no_guards = get_or_past (tree_rules (range_with_len 0 n) n) k no_guards far in
    ap (λ (r : NodeRules). if node k then guard_holds (tree_value n leaf node) r.down else guard_holds (tree_value n leaf node) r.up) e ∙ here (node k)
  where
    here : (b : Bool) → (if b then false else false) ≡ false
    here true = refl
    here false = refl

pub joint_stands : (n : ℕ) (leaf node : ℕ → Bool) (k : ℕ) → one_rule_fires (tree_rule n leaf node k) ≡ true → k < joint_count n
joint_stands n leaf node k f = by (cases_lt k (joint_count n))
  where
    by : (k < joint_count n) ⊎ (joint_count n ≤ k) → k < joint_count n
    by (inl h) = h
    by (inr h) = absurd (cc (joint_absent n leaf node k h, f))

-- bits
pub low_bit : (n k : ℕ) → cell_bit n (low_bits n) k ≡ false
low_bit zero k = refl
low_bit (suc n) zero = refl
low_bit (suc n) (suc k) = low_bit n k

pub bits_low : (n : ℕ) (t : Bits n) → ((k : ℕ) → k < n → cell_bit n t k ≡ false) → t ≡ low_bits n
bits_low zero t h = refl
bits_low (suc n) t h = ap (λ (b : Bool). (b, t.1)) (h zero (omega arith)) ∙ ap (λ (b : Bits n). (false, b)) (bits_low n t.1 (λ k less. h (suc k) (omega arith)))

pub turned_next : (v : ℕ → Bool) (i j : ℕ) → turned v (suc i) (suc j) ≡ turned (λ k. v (suc k)) i j
turned_next v i j = ap (λ b. if b then not (v (suc j)) else v (suc j)) (by (cases_eq j i))
  where
    by : (j ≡ i) ⊎ (j ≢ i) → (suc j == suc i) ≡ (j == i)
    by (inl e) = eq-eqb (suc j) (suc i) (ap (λ x. suc x) e) ∙ sym (eq-eqb j i e)
    by (inr ne) = ne_eqb (suc j) (suc i) (λ e. ne (cc e)) ∙ sym (ne_eqb j i ne)

pub turned_at : (n : ℕ) (t : Bits n) (i k : ℕ) → i < n → cell_bit n (turned_bits n t i) k ≡ turned (cell_bit n t) i k
turned_at zero t i k less = absurd (omega arith)
turned_at (suc n) t zero zero less = refl
turned_at (suc n) t zero (suc k) less = sym (turned_apart (cell_bit (suc n) t) zero (suc k) (λ e. cc e))
turned_at (suc n) t (suc i) zero less = sym (turned_apart (cell_bit (suc n) t) (suc i) zero (λ e. cc e))
turned_at (suc n) t (suc i) (suc k) less = turned_at n t.1 i k (omega arith) ∙ sym (turned_next (cell_bit (suc n) t) i k)

-- the values of a tree
pub value_leaf : (n : ℕ) (leaf node : ℕ → Bool) (i : ℕ) → i < n → tree_value n leaf node i ≡ leaf i
value_leaf n leaf node i less = ap (λ b. if b then leaf i else node (i - n)) (let e : nat_lt i n ≡ true = grind (arith, nat_tests) in e)

pub value_node : (n : ℕ) (leaf node : ℕ → Bool) (k : ℕ) → tree_value n leaf node (n + k) ≡ node k
value_node n leaf node k =
    ap (λ b. if b then leaf (n + k) else node (n + k - n)) (let e : nat_lt (n + k) n ≡ false = grind (arith, nat_tests) in e)
    ∙ ap node (let e : n + k - n ≡ k = omega arith in e)

leaf_turned : (n : ℕ) (leaf node : ℕ → Bool) (i : ℕ) → i < n → turned (tree_value n leaf node) i ≡ tree_value n (turned leaf i) node
leaf_turned n leaf node i less = fun_ext (λ k. by k (cases_lt k n))
  where
    by : (k : ℕ) → (k < n) ⊎ (n ≤ k) → turned (tree_value n leaf node) i k ≡ tree_value n (turned leaf i) node k
    by k (inl h) = ap (λ b. if k == i then not b else b) (value_leaf n leaf node k h) ∙ sym (value_leaf n (turned leaf i) node k h)
    by k (inr h) = turned_apart (tree_value n leaf node) i k (λ e. omega (arith, less, h, e))
        ∙ (ap (λ b. if b then leaf k else node (k - n)) off ∙ sym (ap (λ b. if b then turned leaf i k else node (k - n)) off))
      where
        off : nat_lt k n ≡ false
        off = grind (arith, nat_tests)

node_turned : (n : ℕ) (leaf node : ℕ → Bool) (i : ℕ) → turned (tree_value n leaf node) (n + i) ≡ tree_value n leaf (turned node i)
node_turned n leaf node i = fun_ext (λ k. by k (cases_lt k n))
  where
    same : (j : ℕ) → ((n + j) == (n + i)) ≡ (j == i)
    same j = by (cases_eq j i)
      where
        by : (j ≡ i) ⊎ (j ≢ i) → ((n + j) == (n + i)) ≡ (j == i)
        by (inl e) = eq-eqb (n + j) (n + i) (ap (λ x. n + x) e) ∙ sym (eq-eqb j i e)
        by (inr ne) = ne_eqb (n + j) (n + i) (λ e. ne (omega (arith, e))) ∙ sym (ne_eqb j i ne)

    behind : (j : ℕ) → turned (tree_value n leaf node) (n + i) (n + j) ≡ tree_value n leaf (turned node i) (n + j)
    behind j =
        ap (λ b. if (n + j) == (n + i) then not b else b) (value_node n leaf node j)
        ∙ (ap (λ b. if b then not (node j) else node j) (same j) ∙ sym (value_node n leaf (turned node i) j))

    by : (k : ℕ) → (k < n) ⊎ (n ≤ k) → turned (tree_value n leaf node) (n + i) k ≡ tree_value n leaf (turned node i) k
    by k (inl h) = turned_apart (tree_value n leaf node) (n + i) k (λ e. omega (arith, h, e))
        ∙ (value_leaf n leaf node k h ∙ sym (value_leaf n leaf (turned node i) k h))
    by k (inr h) = subst (λ (x : ℕ). turned (tree_value n leaf node) (n + i) x ≡ tree_value n leaf (turned node i) x)
        (let e : n + (k - n) ≡ k = omega (arith, h) in e) (behind (k - n))

-- the numbered nodes of a list of rules
contains_at : (from : ℕ) (rs : List NodeRules) (k : ℕ) → k < length rs → Contains (owned_from from rs) (owned (from + k) (get_or rs k no_guards))
contains_at from [] k less = absurd (omega arith)
contains_at from (r ∷ rs) zero less = subst (λ (i : ℕ). Contains (owned_from from (r ∷ rs)) (owned i r)) (let e : from ≡ from + 0 = omega arith in e)
    (0, omega arith, refl)
contains_at from (r ∷ rs) (suc k) less =
    subst (λ (i : ℕ). Contains (owned_from from (r ∷ rs)) (owned i (get_or rs k no_guards))) (let e : from + 1 + k ≡ from + suc k = omega arith in e)
    (Contains-append_right (owned from r ∷ []) (owned_from (from + 1) rs) (owned (from + 1 + k) (get_or rs k no_guards))
    (contains_at (from + 1) rs k (omega arith)))

pub record Numbered (from : ℕ) (rs : List NodeRules) (o : Owned) : Type 0 where
  pub at : ℕ
  pub less : at < length rs
  pub is : owned (from + at) (get_or rs at no_guards) ≡ o

numbered : (from : ℕ) (rs : List NodeRules) (o : Owned) → Contains (owned_from from rs) o → Numbered from rs o
numbered from [] o among = absurd (none_among o among)
numbered from (r ∷ rs) o among = by (among_cases (owned from r) (owned_from (from + 1) rs) o among) (numbered (from + 1) rs o)
  where
    by : (owned from r ≡ o) ⊎ Contains (owned_from (from + 1) rs) o → (Contains (owned_from (from + 1) rs) o → Numbered (from + 1) rs o)
        → Numbered from (r ∷ rs) o
    by (inl e) f = record { at = 0; less = omega arith; is = ap (λ i. owned i r) (let z : from + 0 ≡ from = omega arith in z) ∙ e }
    by (inr h) f =
        let y = f h in
        record {
          at = suc y.at;
          less = (let z = y.less in omega (arith, z));
          is = ap (λ i. owned i (get_or rs y.at no_guards))
              (let z : from + suc y.at ≡ from + 1 + y.at = omega arith in z) ∙ y.is;
        }

-- what is known of the tree over so many leaves
abbrev pub TreeOver : ℕ → Type 0
TreeOver n = Settles (range_with_len 0 n) n

abbrev pub TreesSettle : Type 0
TreesSettle = (leaves : List ℕ) (from : ℕ) → 0 < length leaves → AreOutside leaves from → Settles leaves from

pub record Settling (n : ℕ) (leaf : ℕ → Bool) (node : ℕ → Bool) : Type 0 where
  pub is : IsTreeSettled (range_with_len 0 n) n (tree_value n leaf node)

abbrev pub node_moves : (n : ℕ) → (leaf node : ℕ → Bool) → ℕ → Bool
node_moves n leaf node k = one_rule_fires (tree_rule n leaf node k)

pub joint_below : (n : ℕ) (leaf : ℕ → Bool) (node : ℕ → Bool) (k : ℕ) → node_moves n leaf node k ≡ true → k < joint_count n
joint_below n leaf node k f = joint_stands n leaf node k f

module _ (n : ℕ) where
  abbrev leaves : List ℕ
  leaves = range_with_len 0 n

  abbrev values : (ℕ → Bool) → (ℕ → Bool) → ℕ → Bool
  values leaf node = tree_value n leaf node

  abbrev node_of : ℕ → Owned
  node_of k = owned (n + k) (tree_node n k)

  own : (k : ℕ) → k < joint_count n → Contains (tree_owned leaves n) (node_of k)
  own k less = contains_at n (tree_rules leaves n) k less

  own_is : (o : Owned) → Contains (tree_owned leaves n) o → Numbered n (tree_rules leaves n) o
  own_is o among = numbered n (tree_rules leaves n) o among

  own_fires : (leaf : ℕ → Bool) (node : ℕ → Bool) (k : ℕ) → parts.fires (values leaf node) (node_of k) ≡ node_moves n leaf node k
  own_fires leaf node k = ap (λ b. if b then guard_holds (values leaf node) (tree_node n k).down else guard_holds (values leaf node) (tree_node n k).up)
      (value_node n leaf node k)

  outside : (i : ℕ) → i < n → IsOutsideTree leaves n i
  outside i less j d within e =
      let z : Contains (tree_owned leaves n) (get_or (tree_owned leaves n) j d) = Contains-get_or (tree_owned leaves n) j d within in
      let y = own_is (get_or (tree_owned leaves n) j d) z in
      let far : n + y.at ≡ i = ap (λ (o : Owned). o.node) y.is ∙ e in
      omega (arith, less, far)

  leaf_there : (i : ℕ) → i < n → Contains leaves i
  leaf_there i less = (i, omega (arith, less, length-range_with_len 0 n), get_or-range_with_len 0 n i i less ∙ (let z : 0 + i ≡ i = omega arith in z))

  leaf_is : (i : ℕ) → Contains leaves i → i < n
  leaf_is i (k, less, is) =
      let few : k < n = omega (arith, less, length-range_with_len 0 n) in
      let z = get_or-range_with_len 0 n k i few in
      omega (arith, few, z, is)

  all_leaves : (P : ℕ → Type 0) → ((i : ℕ) → i < n → P i) → All P leaves
  all_leaves P f k d less = f _ (leaf_is _ (Contains-get_or leaves k d less))

  -- the law of trees says so
  pub tree_over : TreesSettle → 1 ≤ n → TreeOver n
  tree_over law some = law leaves n (omega (arith, some, length-range_with_len 0 n)) (all_leaves (IsOutsideTree leaves n) outside)

  module _ (known : TreeOver n) where
    -- all are low at first
    pub settling_low : (leaf node : ℕ → Bool) → ((i : ℕ) → leaf i ≡ false) → ((i : ℕ) → node i ≡ false) → Settling n leaf node
    settling_low leaf node low none = record { is = known.first (values leaf node) (λ o among. zero_at o.node ∙ sym (zero_at (tree_top leaves n))) }
      where
        zero_at : (k : ℕ) → values leaf node k ≡ false
        zero_at k = all_low_value n leaf node low none k

    pub answer_low : (leaf node : ℕ → Bool) → ((i : ℕ) → leaf i ≡ false) → ((i : ℕ) → node i ≡ false) → tree_answer n leaf node ≡ false
    answer_low leaf node low none = all_low_value n leaf node low none (tree_top leaves n)

    -- the top is one of its nodes
    top_apart : 2 ≤ n → (i : ℕ) → i < n → tree_top leaves n ≢ i
    top_apart some i less e =
        let (o, among, at) = known.top (omega (arith, some, length-range_with_len 0 n)) in
        let y = own_is o among in
        let far : n + y.at ≡ i = ap (λ (x : Owned). x.node) y.is ∙ (at ∙ e) in
        omega (arith, less, far)

    -- a leaf moves away from the top
    pub record LeafTurned (leaf : ℕ → Bool) (node : ℕ → Bool) (i : ℕ) : Type 0 where
      pub settled : Settling n (turned leaf i) node
      pub top : tree_answer n (turned leaf i) node ≡ tree_answer n leaf node
      pub keeps : (k : ℕ) → node_moves n leaf node k ≡ true → node_moves n (turned leaf i) node k ≡ true

    pub leaf_turns : 2 ≤ n → (leaf : ℕ → Bool) (node : ℕ → Bool) (i : ℕ) → i < n → Settling n leaf node → leaf i ≡ tree_answer n leaf node
        → LeafTurned leaf node i
    leaf_turns some leaf node i less s e =
        let move : TreeMove leaves n (values leaf node) i = of_leaf (outside i less) (value_leaf n leaf node i less ∙ e) in
        let same = leaf_turned n leaf node i less in
        record {
          settled = record { is = subst (λ (v : ℕ → Bool). IsTreeSettled leaves n v) same (known.stays (values leaf node) i s.is move) };
          top = sym (ap (λ (v : ℕ → Bool). v (tree_top leaves n)) same) ∙ turned_apart (values leaf node) i (tree_top leaves n) (top_apart some i less);
          keeps = λ k f.
              let below = joint_below n leaf node k f in
              sym (own_fires (turned leaf i) node k)
              ∙ subst (λ (v : ℕ → Bool). parts.fires v (node_of k) ≡ true) same
              (known.firm (values leaf node) (node_of k) i s.is (own k below) (own_fires leaf node k ∙ f) move (λ (x : i ≡ n + k). omega (arith, less, x)));
        }

    -- a node of its own moves
    pub data TopTurned (leaf : ℕ → Bool) (node : ℕ → Bool) (k : ℕ) : Type 0 where
      stays_top : tree_answer n leaf (turned node k) ≡ tree_answer n leaf node → TopTurned leaf node k
      turns_top : tree_answer n leaf (turned node k) ≡ not (tree_answer n leaf node) → ((i : ℕ) → i < n → leaf i ≡ not (tree_answer n leaf node))
          → TopTurned leaf node k

    pub record NodeTurned (leaf : ℕ → Bool) (node : ℕ → Bool) (k : ℕ) : Type 0 where
      pub settled : Settling n leaf (turned node k)
      pub top : TopTurned leaf node k
      pub keeps : (j : ℕ) → j ≢ k → node_moves n leaf node j ≡ true → node_moves n leaf (turned node k) j ≡ true

    pub node_turns : (leaf : ℕ → Bool) (node : ℕ → Bool) (k : ℕ) → Settling n leaf node → node_moves n leaf node k ≡ true → NodeTurned leaf node k
    node_turns leaf node k s f = record {
      settled = record { is = subst (λ (v : ℕ → Bool). IsTreeSettled leaves n v) same (known.stays (values leaf node) (n + k) s.is move) };
      top = by (cases_eq (n + k) (tree_top leaves n));
      keeps = λ j ne g.
          sym (own_fires leaf (turned node k) j)
          ∙ subst (λ (v : ℕ → Bool). parts.fires v (node_of j) ≡ true) same
          (known.firm (values leaf node) (node_of j) (n + k) s.is (own j (joint_below n leaf node j g)) (own_fires leaf node j ∙ g) move
          (λ (x : n + k ≡ n + j). ne (omega (arith, x))));
    }
      where
        less : k < joint_count n
        less = joint_below n leaf node k f

        same : turned (values leaf node) (n + k) ≡ values leaf (turned node k)
        same = node_turned n leaf node k

        enabled : parts.fires (values leaf node) (node_of k) ≡ true
        enabled = own_fires leaf node k ∙ f

        move : TreeMove leaves n (values leaf node) (n + k)
        move = by_rule (node_of k) (own k less) enabled refl

        at : (x : ℕ) → values leaf (turned node k) x ≡ turned (values leaf node) (n + k) x
        at x = ap (λ (v : ℕ → Bool). v x) (sym same)

        by : (n + k ≡ tree_top leaves n) ⊎ (n + k ≢ tree_top leaves n) → TopTurned leaf node k
        by (inr ne) = stays_top (at (tree_top leaves n) ∙ turned_apart (values leaf node) (n + k) (tree_top leaves n) (λ e. ne (sym e)))
        by (inl e) = turns_top
            (at (tree_top leaves n) ∙ (ap (turned (values leaf node) (n + k)) (sym e)
            ∙ (turned_here (values leaf node) (n + k) ∙ ap (λ x. not (values leaf node x)) e)))
            (λ i below. sym (value_leaf n leaf node i below) ∙ All-contains (λ x. values leaf node x ≡ not (values leaf node (tree_top leaves n))) leaves i
            (known.turns (values leaf node) (node_of k) s.is (own k less) enabled e) (leaf_there i below))

    -- it moves away from the top's value
    pub moves_from_top : (leaf node : ℕ → Bool) (k : ℕ) → Settling n leaf node → node_moves n leaf node k ≡ true → node k ≡ tree_answer n leaf node
    moves_from_top leaf node k s f =
        let less = joint_below n leaf node k f in
        sym (value_node n leaf node k) ∙ known.leaves_it (values leaf node) (node_of k) s.is (own k less) (own_fires leaf node k ∙ f)

    -- where all leaves have the top's value, all nodes have it, and none moves
    pub flat_nodes : (leaf : ℕ → Bool) (node : ℕ → Bool) (b : Bool) → Settling n leaf node → tree_answer n leaf node ≡ b → ((i : ℕ) → i < n → leaf i ≡ b)
        → (k : ℕ) → k < joint_count n → node k ≡ b
    flat_nodes leaf node b s at all k less =
        sym (value_node n leaf node k)
        ∙ (known.flat (values leaf node) s.is (all_leaves (λ i. values leaf node i ≡ values leaf node (tree_top leaves n))
        (λ i below. value_leaf n leaf node i below ∙ (all i below ∙ sym at))) (node_of k) (own k less) ∙ at)

    differ : (b : Bool) → b ≡ not b → ⊥
    differ true e = cc e
    differ false e = cc e

    pub flat_stands : 2 ≤ n → (leaf : ℕ → Bool) (node : ℕ → Bool) (b : Bool) → Settling n leaf node → tree_answer n leaf node ≡ b
        → ((i : ℕ) → i < n → leaf i ≡ b) → (k : ℕ) → node_moves n leaf node k ≡ false
    flat_stands some leaf node b s at all k = by (node_moves n leaf node k) refl
      where
        no : node_moves n leaf node k ≡ true → ⊥
        no f = here (node_turns leaf node k s f)
          where
            less : k < joint_count n
            less = joint_below n leaf node k f

            here : NodeTurned leaf node k → ⊥
            here r = split r.top
              where
                split : TopTurned leaf node k → ⊥
                split (turns_top e other) = differ b (sym (all 0 (omega (arith, some))) ∙ (other 0 (omega (arith, some)) ∙ ap not at))
                split (stays_top e) =
                    let old = flat_nodes leaf node b s at all k less in
                    let new = flat_nodes leaf (turned node k) b r.settled (e ∙ at) all k less in
                    differ b (sym new ∙ (turned_here node k ∙ ap not old))

        by : (z : Bool) → node_moves n leaf node k ≡ z → z ≡ false
        by true e = absurd (no e)
        by false e = refl

    -- where none of its nodes moves, some leaf has the top's value
    pub waits_on : (leaf : ℕ → Bool) (node : ℕ → Bool) → Settling n leaf node → ((k : ℕ) → node_moves n leaf node k ≡ false)
        → (i : ℕ) × (i < n) × (leaf i ≡ tree_answer n leaf node)
    waits_on leaf node s still =
        let (i, among, e) = known.waits (values leaf node) s.is (λ o here.
        let y = own_is o here in
        subst (λ (x : Owned). parts.fires (values leaf node) x ≡ false) y.is (own_fires leaf node y.at ∙ still y.at)) in
        let less = leaf_is i among in
        (i, less, sym (value_leaf n leaf node i less) ∙ e)

-- the same where the nodes are a list of bits
abbrev pub Settled : (n : ℕ) → (ℕ → Bool) → Bits (joint_count n) → Type 0
Settled n leaf t = Settling n leaf (cell_bit (joint_count n) t)

abbrev pub top_of : (n : ℕ) → (leaf : ℕ → Bool) → Bits (joint_count n) → Bool
top_of n leaf t = tree_answer n leaf (cell_bit (joint_count n) t)

abbrev pub joint_moves : (n : ℕ) → (leaf : ℕ → Bool) → Bits (joint_count n) → ℕ → Bool
joint_moves n leaf t k = node_moves n leaf (cell_bit (joint_count n) t) k

module _ (n : ℕ) (known : TreeOver n) (leaf : ℕ → Bool) where
  pub settled_low : ((i : ℕ) → leaf i ≡ false) → Settled n leaf (low_bits (joint_count n))
  settled_low low = settling_low n known leaf (cell_bit (joint_count n) (low_bits (joint_count n))) low (low_bit (joint_count n))

  pub top_low : ((i : ℕ) → leaf i ≡ false) → top_of n leaf (low_bits (joint_count n)) ≡ false
  top_low low = answer_low n known leaf (cell_bit (joint_count n) (low_bits (joint_count n))) low (low_bit (joint_count n))

  pub data Topped (t : Bits (joint_count n)) (k : ℕ) : Type 0 where
    not_top : top_of n leaf (turned_bits (joint_count n) t k) ≡ top_of n leaf t → Topped t k
    at_top : top_of n leaf (turned_bits (joint_count n) t k) ≡ not (top_of n leaf t) → ((i : ℕ) → i < n → leaf i ≡ not (top_of n leaf t)) → Topped t k

  pub record JointMoved (t : Bits (joint_count n)) (k : ℕ) : Type 0 where
    pub settled : Settled n leaf (turned_bits (joint_count n) t k)
    pub top : Topped t k
    pub keeps : (j : ℕ) → j ≢ k → joint_moves n leaf t j ≡ true → joint_moves n leaf (turned_bits (joint_count n) t k) j ≡ true

  pub joint_moved : (t : Bits (joint_count n)) (k : ℕ) → Settled n leaf t → joint_moves n leaf t k ≡ true → JointMoved t k
  joint_moved t k s f = record {
    settled = subst (λ (g : ℕ → Bool). Settling n leaf g) same r.settled;
    top = by r.top;
    keeps = λ j ne z. ap (λ (g : ℕ → Bool). node_moves n leaf g j) (sym same) ∙ r.keeps j ne z;
  }
    where
      r : NodeTurned n known leaf (cell_bit (joint_count n) t) k
      r = node_turns n known leaf (cell_bit (joint_count n) t) k s f

      same : turned (cell_bit (joint_count n) t) k ≡ cell_bit (joint_count n) (turned_bits (joint_count n) t k)
      same = sym (fun_ext (λ j. turned_at (joint_count n) t k j (joint_below n leaf (cell_bit (joint_count n) t) k f)))

      by : TopTurned n known leaf (cell_bit (joint_count n) t) k → Topped t k
      by (stays_top e) = not_top (ap (λ (g : ℕ → Bool). tree_answer n leaf g) (sym same) ∙ e)
      by (turns_top e all) = at_top (ap (λ (g : ℕ → Bool). tree_answer n leaf g) (sym same) ∙ e) all
