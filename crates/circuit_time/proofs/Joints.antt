-- Levels of a completion tree: a node of it moves only after nodes of lower levels.
--
-- n: how many leaves; k: an own node of the tree; ls: the nodes of a level; from: the number of the next own node; h: the level of each node.
use Rattle.std.proofs.Common.{◌≡◌, ◌≢◌, ℕ, zero, suc, ◌+◌, ◌-◌, ◌/◌, ◌<◌, ◌≤◌, Bool, true, false, List, [], ◌∷◌, ◌++◌, length, get_or, refl, sym, ap, ◌∙◌, subst, inl, inr, arith}
use Rattle.std.specs.Prelude.{◌⊎◌, ◌&&◌, ◌||◌, not, nat_lt, if◌then◌else◌}
use Rattle.std.specs.List.{range_with_len}
use Rattle.std.proofs.lemmas.Bool.{cases_lt, cases_eq}
use Rattle.std.proofs.lemmas.Bool.Decides.{nat_tests}
use Rattle.std.proofs.lemmas.List.FromFn.{length-range_with_len}
use Rattle.prs_core.specs.Nets.{NodeRules}
use Rattle.prs_core.specs.Moves.{guard_holds}
use Rattle.cell_parallel.specs.Trees.{c_element, level_rules, next_level, levels_rules}
use Rattle.circuit_places.specs.Circuit.{tree_node}
use Rattle.round_time.specs.Longest.{levels_in, tree_height}
use Rattle.circuit_time.proofs.Trails.{level_from, joint_level}

abbrev none : NodeRules
none = record { up = []; down = [] }

-- the rules are those of no node, or of one that joins two of lower levels, and lies not above the tree
data Joins (h : ℕ → ℕ) (level most : ℕ) (r : NodeRules) : Type 0 where
  no_joint : r ≡ none → Joins h level most r
  joins : (p q : ℕ) → r ≡ c_element p q → h p < level → h q < level → level ≤ most → Joins h level most r

abbrev Upto : (ℕ → ℕ) → ℕ → List ℕ → Type 0
Upto h l [] = Unit {0}
Upto h l (p ∷ ps) = (h p ≤ l) × Upto h l ps

half_more : (n : ℕ) → suc (suc n) / 2 ≡ suc (n / 2)
half_more n = omega arith

level_count : (ls : List ℕ) → length (level_rules ls) ≡ length ls / 2
level_count [] = refl
level_count (p ∷ []) = refl
level_count (p ∷ q ∷ ls) = ap (λ k. suc k) (level_count ls) ∙ sym (half_more (length ls))

next_count : (ls : List ℕ) (from : ℕ) → length (next_level ls from) ≡ (length ls + 1) / 2
next_count [] from = refl
next_count (p ∷ []) from = refl
next_count (p ∷ q ∷ ls) from = let a = next_count ls (from + 1) in omega (arith, a)

next_upto : (h : ℕ → ℕ) (l : ℕ) (ls : List ℕ) (from : ℕ) → Upto h l ls → ((k : ℕ) → k < length ls / 2 → h (from + k) ≡ suc l)
    → Upto h (suc l) (next_level ls from)
next_upto h l [] from u new = tt
next_upto h l (p ∷ []) from u new = let a = u.0 in (omega (arith, a), tt)
next_upto h l (p ∷ q ∷ ls) from u new =
    let a : h (from + 0) ≡ suc l = new 0 (omega arith) in
    let b : h from ≡ h (from + 0) = ap h (omega arith) in (
      omega (arith, a, b),
      next_upto h l ls (from + 1) u.1.1 (λ k less.
          let c : h (from + 1 + k) ≡ h (from + suc k) = ap h (omega arith) in c ∙ new (suc k) (omega (arith, less))),
    )

-- a node of a level
level_joins : (h : ℕ → ℕ) (l most : ℕ) (ls : List ℕ) → Upto h l ls → suc l ≤ most → (k : ℕ) → Joins h (suc l) most (get_or (level_rules ls) k none)
level_joins h l most [] u m k = no_joint refl
level_joins h l most (p ∷ []) u m k = no_joint refl
level_joins h l most (p ∷ q ∷ ls) u m zero = let a = u.0 in let b = u.1.0 in joins p q refl (omega (arith, a)) (omega (arith, b)) m
level_joins h l most (p ∷ q ∷ ls) u m (suc k) = level_joins h l most ls u.1.1 m k

get_left : (xs ys : List NodeRules) (k : ℕ) → k < length xs → get_or (xs ++ ys) k none ≡ get_or xs k none
get_left [] ys k less = absurd (omega (arith, less))
get_left (x ∷ xs) ys zero less = refl
get_left (x ∷ xs) ys (suc k) less = get_left xs ys k (omega (arith, less))

get_right : (xs ys : List NodeRules) (k : ℕ) → get_or (xs ++ ys) (length xs + k) none ≡ get_or ys k none
get_right [] ys k = let z : 0 + k ≡ k = omega arith in ap (λ i. get_or ys i none) z
get_right (x ∷ xs) ys k = let z : suc (length xs) + k ≡ suc (length xs + k) = omega arith in ap (λ i. get_or (x ∷ (xs ++ ys)) i none) z ∙ get_right xs ys k

low_level : (m n k : ℕ) → k < n / 2 → level_from (suc m) n k ≡ 1
low_level m n k less = ap (λ b. if b then 1 else suc (level_from m ((n + 1) / 2) (k - n / 2))) (let e : nat_lt k (n / 2) ≡ true = grind (arith, nat_tests) in e)

high_level : (m n k : ℕ) → level_from (suc m) n (n / 2 + k) ≡ suc (level_from m ((n + 1) / 2) k)
high_level m n k =
    ap (λ b. if b then 1 else suc (level_from m ((n + 1) / 2) (n / 2 + k - n / 2))) (let e : nat_lt (n / 2 + k) (n / 2) ≡ false = grind (arith, nat_tests) in e)
    ∙ ap (λ i. suc (level_from m ((n + 1) / 2) i)) (let e : n / 2 + k - n / 2 ≡ k = omega arith in e)

more_levels : (m n : ℕ) → 1 < n → levels_in (suc m) n ≡ suc (levels_in m ((n + 1) / 2))
more_levels m n some = ap (λ b. if b then suc (levels_in m ((n + 1) / 2)) else 0) (let e : nat_lt 1 n ≡ true = grind (arith, nat_tests) in e)

no_levels : (m n : ℕ) → n ≤ 1 → levels_in m n ≡ 0
no_levels zero n few = refl
no_levels (suc m) n few = ap (λ b. if b then suc (levels_in m ((n + 1) / 2)) else 0) (let e : nat_lt 1 n ≡ false = grind (arith, nat_tests) in e)

wider : (h : ℕ → ℕ) (a b c d : ℕ) (r : NodeRules) → a ≡ b → (a ≤ c → b ≤ d) → Joins h a c r → Joins h b d r
wider h a b c d r e f (no_joint is) = no_joint is
wider h a b c d r e f (joins p q is x y z) = joins p q is (omega (arith, e, x)) (omega (arith, e, y)) (f z)

-- a node of the tree over these
levels_join : (h : ℕ → ℕ) (m l : ℕ) (ls : List ℕ) (from : ℕ) → Upto h l ls → ((k : ℕ) → h (from + k) ≡ l + level_from m (length ls) k) → (k : ℕ)
    → Joins h (l + level_from m (length ls) k) (l + levels_in m (length ls)) (get_or (levels_rules m ls from) k none)
levels_join h zero l ls from u new k = no_joint refl
levels_join h (suc m) l ls from u new k =
    by (levels_join h m (suc l) (next_level ls from) (from + length ls / 2) (next_upto h l ls from u fresh) later) (cases_lt k (length ls / 2))
  where
    some : (k : ℕ) → k < length ls / 2 → suc l ≤ l + levels_in (suc m) (length ls)
    some k less = let a = more_levels m (length ls) (omega (arith, less)) in omega (arith, a)

    count : length (next_level ls from) ≡ (length ls + 1) / 2
    count = next_count ls from

    later : (k : ℕ) → h (from + length ls / 2 + k) ≡ suc l + level_from m (length (next_level ls from)) k
    later k =
        let a = new (length ls / 2 + k) in
        let b = high_level m (length ls) k in
        let c : h (from + length ls / 2 + k) ≡ h (from + (length ls / 2 + k)) = ap h (omega arith) in
        let d : level_from m (length (next_level ls from)) k ≡ level_from m ((length ls + 1) / 2) k = ap (λ i. level_from m i k) count in
        omega (arith, a, b, c, d)

    fresh : (k : ℕ) → k < length ls / 2 → h (from + k) ≡ suc l
    fresh k less = let a = new k in let b = low_level m (length ls) k less in omega (arith, a, b)

    room : (d : ℕ) → 1 ≤ d → suc l + d ≤ suc l + levels_in m ((length ls + 1) / 2) → suc l + d ≤ l + levels_in (suc m) (length ls)
    room d one most = by (cases_lt 1 (length ls))
      where
        by : (1 < length ls) ⊎ (length ls ≤ 1) → suc l + d ≤ l + levels_in (suc m) (length ls)
        by (inl a) = let b = more_levels m (length ls) a in omega (arith, b, most)
        by (inr a) = let b = no_levels m ((length ls + 1) / 2) (omega (arith, a)) in absurd (omega (arith, b, most, one))

    positive : (j i k : ℕ) (r : NodeRules) → Joins h (suc l + level_from j i k) (suc l + levels_in j i) r
        → Joins h (suc l + level_from j i k) (suc l + levels_in j i) r × ((r ≡ none) ⊎ (1 ≤ level_from j i k) ⊎ (j ≡ 0))
    positive zero i k r x = (x, inr (inr refl))
    positive (suc j) i k r x = (x, inr (inl (by (nat_lt k (i / 2)))))
      where
        by : (b : Bool) → 1 ≤ (if b then 1 else suc (level_from j ((i + 1) / 2) (k - i / 2)))
        by true = omega arith
        by false = omega arith

    by : ((k : ℕ) → Joins h (suc l + level_from m (length (next_level ls from)) k) (suc l + levels_in m (length (next_level ls from)))
        (get_or (levels_rules m (next_level ls from) (from + length ls / 2)) k none)) → (k < length ls / 2) ⊎ (length ls / 2 ≤ k)
        → Joins h (l + level_from (suc m) (length ls) k) (l + levels_in (suc m) (length ls)) (get_or (levels_rules (suc m) ls from) k none)
    by go (inl less) =
        let a = low_level m (length ls) k less in
        let b : k < length (level_rules ls) = let z = level_count ls in omega (arith, z, less) in
        subst (λ (r : NodeRules). Joins h (l + level_from (suc m) (length ls) k) (l + levels_in (suc m) (length ls)) r)
        (sym (get_left (level_rules ls) (levels_rules m (next_level ls from) (from + length ls / 2)) k b))
        (wider h (suc l) (l + level_from (suc m) (length ls) k) (l + levels_in (suc m) (length ls)) (l + levels_in (suc m) (length ls)) (get_or
        (level_rules ls) k none)
        (omega (arith, a)) (λ z. let w = some k less in omega (arith, a, w)) (level_joins h l (l + levels_in (suc m) (length ls)) ls u (some k less) k))
    by go (inr far) =
        let i = k - length ls / 2 in
        let e : k ≡ length ls / 2 + (k - length ls / 2) = omega (arith, far) in
        let g = high_level m (length ls) (k - length ls / 2) in
        let c : level_from (suc m) (length ls) k ≡ suc (level_from m ((length ls + 1) / 2) (k - length ls / 2)) = ap (level_from (suc m) (length ls)) e ∙ g in
        let x = go (k - length ls / 2) in
        let y : Joins h (suc l + level_from m ((length ls + 1) / 2) (k - length ls / 2)) (suc l + levels_in m ((length ls + 1) / 2))
        (get_or (levels_rules m (next_level ls from) (from + length ls / 2)) (k - length ls / 2) none) =
        subst (λ (z : ℕ). Joins h (suc l + level_from m z (k - length ls / 2)) (suc l + levels_in m z)
        (get_or (levels_rules m (next_level ls from) (from + length ls / 2)) (k - length ls / 2) none)) count x in
        let at : get_or (levels_rules (suc m) ls from) k none ≡ get_or (levels_rules m (next_level ls from) (from + length ls / 2)) (k - length ls / 2) none =
        ap (λ j. get_or (level_rules ls ++ levels_rules m (next_level ls from) (from + length ls / 2)) j none)
        (let z = level_count ls in let w : k ≡ length (level_rules ls) + (k - length ls / 2) = omega (arith, far, z) in w)
        ∙ get_right (level_rules ls) (levels_rules m (next_level ls from) (from + length ls / 2)) (k - length ls / 2) in
        subst (λ (r : NodeRules). Joins h (l + level_from (suc m) (length ls) k) (l + levels_in (suc m) (length ls)) r) (sym at)
        (on c (positive m ((length ls + 1) / 2) (k - length ls / 2) (get_or (levels_rules m (next_level ls from) (from + length ls / 2))
        (k - length ls / 2) none) y))
      where
        on : level_from (suc m) (length ls) k ≡ suc (level_from m ((length ls + 1) / 2) (k - length ls / 2))
            → Joins h (suc l + level_from m ((length ls + 1) / 2) (k - length ls / 2)) (suc l + levels_in m ((length ls + 1) / 2))
            (get_or (levels_rules m (next_level ls from) (from + length ls / 2)) (k - length ls / 2) none)
            × ((get_or (levels_rules m (next_level ls from) (from + length ls / 2)) (k - length ls / 2) none ≡ none)
            ⊎ (1 ≤ level_from m ((length ls + 1) / 2) (k - length ls / 2)) ⊎ (m ≡ 0))
            → Joins h (l + level_from (suc m) (length ls) k) (l + levels_in (suc m) (length ls))
            (get_or (levels_rules m (next_level ls from) (from + length ls / 2)) (k - length ls / 2) none)
        on c (y, inl is) = no_joint is
        on c (y, inr (inl one)) = wider h (suc l + level_from m ((length ls + 1) / 2) (k - length ls / 2)) (l + level_from (suc m) (length ls) k)
            (suc l + levels_in m ((length ls + 1) / 2))
            (l + levels_in (suc m) (length ls)) (get_or (levels_rules m (next_level ls from) (from + length ls / 2)) (k - length ls / 2) none) (omega
            (arith, c))
            (λ z. let w = room (level_from m ((length ls + 1) / 2) (k - length ls / 2)) one z in omega (arith, c, w)) y
        on c (y, inr (inr is)) = no_joint (ap (λ j. get_or (levels_rules j (next_level ls from) (from + length ls / 2)) (k - length ls / 2) none) is)

-- ---- the tree over the leaves 0 .. n - 1

-- leaves are on no level
abbrev pub number_level : (n i : ℕ) → ℕ
number_level n i = if nat_lt i n then 0 else joint_level n (i - n)

pub leaf_level : (n i : ℕ) → i < n → number_level n i ≡ 0
leaf_level n i less = ap (λ b. if b then 0 else joint_level n (i - n)) (let e : nat_lt i n ≡ true = grind (arith, nat_tests) in e)

leaves_upto : (n from count : ℕ) → from + count ≤ n → Upto (number_level n) 0 (range_with_len from count)
leaves_upto n from zero most = tt
leaves_upto n from (suc count) most = (
  let z : number_level n from ≡ 0 = ap (λ b. if b then 0 else joint_level n (from - n)) (let e : nat_lt from n ≡ true = grind (arith, nat_tests) in e) in
      omega (arith, z),
  leaves_upto n (from + 1) count (omega (arith, most)),
)

pub own_level : (n k : ℕ) → number_level n (n + k) ≡ joint_level n k
own_level n k = ap (λ b. if b then 0 else joint_level n (n + k - n)) (let e : nat_lt (n + k) n ≡ false = grind (arith, nat_tests) in e)
    ∙ ap (joint_level n) (let e : n + k - n ≡ k = omega arith in e)

tree_joins : (n k : ℕ) → Joins (number_level n) (joint_level n k) (tree_height n) (tree_node n k)
tree_joins n k =
    let count : length (range_with_len 0 n) ≡ n = length-range_with_len 0 n in
    let new : (i : ℕ) → number_level n (n + i) ≡ 0 + level_from n (length (range_with_len 0 n)) i =
    λ i. let a = own_level n i in let b : level_from n (length (range_with_len 0 n)) i
    ≡ joint_level n i = ap (λ z. level_from n z i) count in omega (arith, a, b) in
    let x = levels_join (number_level n) n 0 (range_with_len 0 n) n (leaves_upto n 0 n (omega arith)) new k in
    let y : Joins (number_level n) (0 + joint_level n k) (0 + tree_height n) (get_or (levels_rules n (range_with_len 0 n) n) k none) =
    subst (λ (z : ℕ). Joins (number_level n) (0 + level_from n z k) (0 + levels_in n z) (get_or (levels_rules n (range_with_len 0 n) n) k none)) count x in
    let z : Joins (number_level n) (joint_level n k) (tree_height n) (get_or (levels_rules n (range_with_len 0 n) n) k none) =
    wider (number_level n) (0 + joint_level n k) (joint_level n k) (0 + tree_height n) (tree_height n) (get_or (levels_rules n (range_with_len 0 n) n) k none)
    (omega arith) (λ w. omega (arith, w)) y in
    subst (λ (c : ℕ). Joins (number_level n) (joint_level n k) (tree_height n) (get_or (levels_rules c (range_with_len 0 n) n) k none)) (sym count) z

abbrev Same : (v w : ℕ → Bool) → NodeRules → Type 0
Same v w r = (guard_holds w r.up ≡ guard_holds v r.up) × (guard_holds w r.down ≡ guard_holds v r.down)

-- A node whose value changes, of a leaf or an own node, leaves the guards of another as they are, or is of a lower level than that, which lies
-- not above the tree, and holds its guard the one way alone.
pub record Above (n j : ℕ) (w : ℕ → Bool) (k : ℕ) : Type 0 where
  pub lower : number_level n j < joint_level n k
  pub within : joint_level n k ≤ tree_height n
  pub no_fall : w j ≡ true → guard_holds w (tree_node n k).down ≡ false
  pub no_rise : w j ≡ false → guard_holds w (tree_node n k).up ≡ false

pub joint_sees : (n j : ℕ) (v w : ℕ → Bool) → ((i : ℕ) → i ≢ j → w i ≡ v i) → (k : ℕ)
    → ((guard_holds w (tree_node n k).up ≡ guard_holds v (tree_node n k).up) × (guard_holds w (tree_node n k).down ≡ guard_holds v (tree_node n k).down))
    ⊎ Above n j w k
joint_sees n j v w same k = by (tree_joins n k)
  where
    both : (p q : ℕ) → p ≢ j → q ≢ j → Same v w (c_element p q)
    both p q a b = (
      ap (λ z. z && (w q && true) || false) (same p a) ∙ ap (λ z. v p && (z && true) || false) (same q b),
      ap (λ z. not z && (not (w q) && true) || false) (same p a) ∙ ap (λ z. not (v p) && (not z && true) || false) (same q b),
    )

    second : (b : Bool) → (b && (false && true) || false) ≡ false
    second true = refl
    second false = refl

    left_fall : (p q : ℕ) → p ≡ j → w j ≡ true → guard_holds w (c_element p q).down ≡ false
    left_fall p q e h = ap (λ z. not z && (not (w q) && true) || false) (ap w e ∙ h)

    left_rise : (p q : ℕ) → p ≡ j → w j ≡ false → guard_holds w (c_element p q).up ≡ false
    left_rise p q e h = ap (λ z. z && (w q && true) || false) (ap w e ∙ h)

    right_fall : (p q : ℕ) → q ≡ j → w j ≡ true → guard_holds w (c_element p q).down ≡ false
    right_fall p q e h = ap (λ z. not (w p) && (not z && true) || false) (ap w e ∙ h) ∙ second (not (w p))

    right_rise : (p q : ℕ) → q ≡ j → w j ≡ false → guard_holds w (c_element p q).up ≡ false
    right_rise p q e h = ap (λ z. w p && (z && true) || false) (ap w e ∙ h) ∙ second (w p)

    by : Joins (number_level n) (joint_level n k) (tree_height n) (tree_node n k) → Same v w (tree_node n k) ⊎ Above n j w k
    by (no_joint is) = inl (subst (Same v w) (sym is) (refl, refl))
    by (joins p q is x y most) = here (cases_eq p j) (cases_eq q j)
      where
        here : (p ≡ j) ⊎ (p ≢ j) → (q ≡ j) ⊎ (q ≢ j) → Same v w (tree_node n k) ⊎ Above n j w k
        here (inl e) b = let z : number_level n p ≡ number_level n j = ap (number_level n) e in inr (record {
          lower = omega (arith, z, x);
          within = most;
          no_fall = λ h. ap (λ (r : NodeRules). guard_holds w r.down) is ∙ left_fall p q e h;
          no_rise = λ h. ap (λ (r : NodeRules). guard_holds w r.up) is ∙ left_rise p q e h;
        })
        here (inr a) (inl e) = let z : number_level n q ≡ number_level n j = ap (number_level n) e in inr (record {
          lower = omega (arith, z, y);
          within = most;
          no_fall = λ h. ap (λ (r : NodeRules). guard_holds w r.down) is ∙ right_fall p q e h;
          no_rise = λ h. ap (λ (r : NodeRules). guard_holds w r.up) is ∙ right_rise p q e h;
        })
        here (inr a) (inr b) = inl (subst (Same v w) (sym is) (both p q a b))
