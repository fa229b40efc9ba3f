-- Nodes in an order in which each number stands once: where a number is, and that it is in no second place.
use Rattle.std.proofs.Common.{◌≡◌, ◌≢◌, ℕ, zero, suc, ◌+◌, ◌<◌, ◌≤◌, ◌==◌, Bool, List, [], ◌∷◌, length, get_or, refl, sym, ap, ◌∙◌, arith, ⊎_elim}
use Rattle.std.specs.Prelude.{if◌then◌else◌, sum_by, All}
use Rattle.std.specs.List.Sorted.{IsPermutation}
use Rattle.std.proofs.lemmas.Bool.{cases_lt, cases_eq, eq-eqb, ne_eqb}
use Rattle.std.proofs.lemmas.List.Elements.{All-nil, All-cons, All-get_or}
use Rattle.std.proofs.lemmas.List.Sums.{sum_by-cons}
use Rattle.std.proofs.lemmas.List.Sorted.{All-permutation, IsPermutation-sym, sum_by-IsPermutation, length_permutation}
use Rattle.prs_core.specs.Nets.{NodeRules}
use Rattle.prs_core.specs.Pairs.{no_rules}
use Rattle.net_compose.proofs.HalvedNodes.{Numbered, numbered, length-numbered}

abbrev pub nowhere : Numbered
nowhere = record { node = 0; rules = no_rules }

abbrev one_at : ℕ → Numbered → ℕ
one_at m x = if x.node == m then 1 else 0

-- how often a number stands among some nodes
abbrev times : ℕ → List Numbered → ℕ
times m [] = 0
times m (x ∷ xs) = one_at m x + times m xs

times_sum : (m : ℕ) (xs : List Numbered) → sum_by (one_at m) xs ≡ times m xs
times_sum m [] = refl
times_sum m (x ∷ xs) = sum_by-cons (one_at m) x xs ∙ ap (λ k. one_at m x + k) (times_sum m xs)

here_one : (m : ℕ) (x : Numbered) → x.node ≡ m → one_at m x ≡ 1
here_one m x e = ap (λ (b : Bool). if b then 1 else 0) (eq-eqb x.node m e)

here_none : (m : ℕ) (x : Numbered) → x.node ≢ m → one_at m x ≡ 0
here_none m x e = ap (λ (b : Bool). if b then 1 else 0) (ne_eqb x.node m e)

times_before : (m from : ℕ) (rs : List NodeRules) → m < from → times m (numbered from rs) ≡ 0
times_before m from [] l = refl
times_before m from (r ∷ rs) l =
    let a = here_none m (record { node = from; rules = r }) (λ e. absurd (let g : ⊥ = omega (arith, e, l) in g)) in
    let b = times_before m (suc from) rs (omega (arith, l)) in
    omega (arith, a, b)

times_in : (m from : ℕ) (rs : List NodeRules) → from ≤ m → m < from + length rs → times m (numbered from rs) ≡ 1
times_in m from [] le l = absurd (let g : ⊥ = omega (arith, le, l) in g)
times_in m from (r ∷ rs) le l = ⊎_elim
    (λ (e : from ≡ m).
    let a = here_one m (record { node = from; rules = r }) e in
    let b = times_before m (suc from) rs (omega (arith, e)) in
    let c : times m (numbered from (r ∷ rs)) ≡ 1 = omega (arith, a, b) in
    c)
    (λ (ne : from ≢ m).
    let a = here_none m (record { node = from; rules = r }) ne in
    let b = times_in m (suc from) rs (omega (arith, le, ne)) (omega (arith, l)) in
    let c : times m (numbered from (r ∷ rs)) ≡ 1 = omega (arith, a, b) in
    c)
    (cases_eq from m)

times_at : (m : ℕ) (xs : List Numbered) (i : ℕ) → i < length xs → (get_or xs i nowhere).node ≡ m → 1 ≤ times m xs
times_at m [] i l e = absurd (omega (arith, l))
times_at m (x ∷ xs) zero l e = let a = here_one m x e in omega (arith, a)
times_at m (x ∷ xs) (suc i) l e = let a = times_at m xs i (omega (arith, l)) e in omega (arith, a)

times_twice : (m : ℕ) (xs : List Numbered) (i j : ℕ) → i < j → j < length xs → (get_or xs i nowhere).node ≡ m → (get_or xs j nowhere).node ≡ m → 2 ≤ times m xs
times_twice m [] i j h l e f = absurd (omega (arith, l))
times_twice m (x ∷ xs) i zero h l e f = absurd (omega (arith, h))
times_twice m (x ∷ xs) zero (suc j) h l e f =
    let a = here_one m x e in
    let b = times_at m xs j (omega (arith, l)) f in
    omega (arith, a, b)
times_twice m (x ∷ xs) (suc i) (suc j) h l e f = let a = times_twice m xs i j (omega (arith, h)) (omega (arith, l)) e f in omega (arith, a)

pub record Standing (m : ℕ) (xs : List Numbered) : Type 0 where
  pub place : ℕ
  pub within : place < length xs
  pub is : (get_or xs place nowhere).node ≡ m

times_find : (m : ℕ) (xs : List Numbered) → 1 ≤ times m xs → Standing m xs
times_find m [] h = absurd (omega (arith, h))
times_find m (x ∷ xs) h = ⊎_elim
    (λ (e : x.node ≡ m). let r : Standing m (x ∷ xs) = record { place = zero; within = omega arith; is = e } in r)
    (λ (ne : x.node ≢ m).
    let a = here_none m x ne in
    let s = times_find m xs (omega (arith, h, a)) in
    let r : Standing m (x ∷ xs) = record { place = suc s.place; within = (let w = s.within in omega (arith, w)); is = s.is } in
    r)
    (cases_eq x.node m)

-- a node of the list, and its rules
pub record IsNode (rs : List NodeRules) (x : Numbered) : Type 0 where
  pub within : x.node < length rs
  pub is : get_or rs x.node no_rules ≡ x.rules

all_nodes : (from : ℕ) (rs : List NodeRules) (all : List NodeRules) → ((i : ℕ) → i < length rs → get_or all (from + i) no_rules ≡ get_or rs i no_rules)
    → from + length rs ≤ length all → All (IsNode all) (numbered from rs)
all_nodes from [] all h l = All-nil (IsNode all)
all_nodes from (r ∷ rs) all h l =
    All-cons (IsNode all) (record { node = from; rules = r }) (numbered (suc from) rs)
    (record { within = omega (arith, l); is = ap (λ k. get_or all k no_rules) (let z : from ≡ from + 0 = omega arith in z) ∙ h 0 (omega arith) })
    (all_nodes (suc from) rs all
    (λ i less. ap (λ k. get_or all k no_rules) (let z : suc from + i ≡ from + suc i = omega arith in z) ∙ h (suc i) (omega (arith, less)))
    (omega (arith, l)))

-- the nodes of a list of rules in another order
module _ (xs : List Numbered) (rs : List NodeRules) (all : IsPermutation xs (numbered 0 rs)) where
  pub as_long : length xs ≡ length rs
  as_long = sym (length_permutation xs (numbered 0 rs) all) ∙ length-numbered 0 rs

  same_times : (m : ℕ) → times m xs ≡ times m (numbered 0 rs)
  same_times m = sym (times_sum m xs) ∙ (sym (sum_by-IsPermutation (one_at m) xs (numbered 0 rs) all) ∙ times_sum m (numbered 0 rs))

  once : (m : ℕ) → m < length rs → times m xs ≡ 1
  once m l = same_times m ∙ times_in m 0 rs (omega arith) (omega (arith, l))

  pub node_in : (i : ℕ) → i < length xs → IsNode rs (get_or xs i nowhere)
  node_in i l = All-get_or (IsNode rs) xs i nowhere l (All-permutation (IsNode rs) (numbered 0 rs) xs (IsPermutation-sym xs (numbered 0 rs) all)
      (all_nodes 0 rs rs (λ j h. ap (λ k. get_or rs k no_rules) (let z : 0 + j ≡ j = omega arith in z)) (omega arith)))

  pub standing : (m : ℕ) → m < length rs → Standing m xs
  standing m l = times_find m xs (let e = once m l in omega (arith, e))

  pub one_place : (i j : ℕ) → i < length xs → j < length xs → (get_or xs i nowhere).node ≡ (get_or xs j nowhere).node → i ≡ j
  one_place i j hi hj e = ⊎_elim
      (λ (lt : i < j). absurd (twice i j lt hj e))
      (λ (le : j ≤ i). ⊎_elim (λ (lt : j < i). absurd (twice j i lt hi (sym e))) (λ (ge : i ≤ j). let z : i ≡ j = omega (arith, le, ge) in z) (cases_lt j i))
      (cases_lt i j)
    where
      twice : (i j : ℕ) → i < j → j < length xs → (get_or xs i nowhere).node ≡ (get_or xs j nowhere).node → ⊥
      twice i j lt hj e =
          let m = (get_or xs j nowhere).node in
          let w = (node_in j hj).within in
          let a = times_twice m xs i j lt hj e refl in
          let b = once m w in
          omega (arith, a, b)
