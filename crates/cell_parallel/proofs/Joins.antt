-- A tree as the list of its C-elements with their inputs, and what goes down it and up it.
use Rattle.std.proofs.Common.{◌≡◌, ℕ, zero, suc, ◌+◌, ◌-◌, ◌/◌, ◌≤◌, ◌<◌, List, [], ◌∷◌, ◌++◌, length, map, get_or, Contains, refl, sym, ap, subst, ◌∙◌, arith, ◌⊎◌, inl, inr}
use Rattle.std.proofs.lemmas.List.{length-map, get_or-map, get_or_default, map-append}
use Rattle.std.proofs.lemmas.List.Elements.{Contains-append_left, Contains-append_right, Contains-append_cases}
use Rattle.prs_core.specs.Nets.{NodeRules}
use Rattle.prs_core.specs.Parts.{Owned, owned, owned_from}
use Rattle.prs_core.specs.Turning.{among_cases, none_among, among_mapped, mapped_among}
use Rattle.cell_parallel.specs.Trees.{c_element, level_rules, next_level, levels_rules, tree_rules, tree_top, tree_owned}
use Rattle.cell_parallel.specs.Sizes.{level_length, next_length, tree_length}
use Rattle.cell_parallel.proofs.Grown.{owned_append}

pub record Join : Type 0 where
  pub node : ℕ
  pub left : ℕ
  pub right : ℕ

abbrev pub join : ℕ → ℕ → ℕ → Join
join node left right = record { node = node; left = left; right = right }

abbrev pub as_owned : Join → Owned
as_owned j = owned j.node (c_element j.left j.right)

abbrev pub level_joins : List ℕ → ℕ → List Join
level_joins (p ∷ q ∷ rest) from = join from p q ∷ level_joins rest (from + 1)
level_joins _ from = []

abbrev pub levels_joins : ℕ → List ℕ → ℕ → List Join
levels_joins zero ls from = []
levels_joins (suc n) ls from = level_joins ls from ++ levels_joins n (next_level ls from) (from + length ls / 2)

abbrev pub tree_joins : List ℕ → ℕ → List Join
tree_joins leaves from = levels_joins (length leaves) leaves from

level_owned : (ls : List ℕ) (from : ℕ) → owned_from from (level_rules ls) ≡ map as_owned (level_joins ls from)
level_owned [] from = refl
level_owned (p ∷ []) from = refl
level_owned (p ∷ q ∷ ls) from = ap (λ l. owned from (c_element p q) ∷ l) (level_owned ls (from + 1))

levels_owned : (n : ℕ) (ls : List ℕ) (from : ℕ) → owned_from from (levels_rules n ls from) ≡ map as_owned (levels_joins n ls from)
levels_owned zero ls from = refl
levels_owned (suc n) ls from =
    let next = next_level ls from in
    let at : ℕ = from + length ls / 2 in
    owned_append from (level_rules ls) (levels_rules n next at)
    ∙ (ap (λ k. owned_from from (level_rules ls) ++ owned_from (from + k) (levels_rules n next at)) (level_length ls)
    ∙ (ap (λ l. l ++ owned_from at (levels_rules n next at)) (level_owned ls from)
    ∙ (ap (λ l. map as_owned (level_joins ls from) ++ l) (levels_owned n next at)
    ∙ sym (map-append as_owned (level_joins ls from) (levels_joins n next at)))))

pub owned_is : (leaves : List ℕ) (from : ℕ) → tree_owned leaves from ≡ map as_owned (tree_joins leaves from)
owned_is leaves from = levels_owned (length leaves) leaves from

-- between the nodes with their rules and the C-elements
pub join_of : (leaves : List ℕ) (from : ℕ) (o : Owned) → Contains (tree_owned leaves from) o → (j : Join) × Contains (tree_joins leaves from) j
    × (as_owned j ≡ o)
join_of leaves from o among = among_mapped as_owned (tree_joins leaves from) o (subst (λ l. Contains l o) (owned_is leaves from) among)

pub owned_of : (leaves : List ℕ) (from : ℕ) (j : Join) → Contains (tree_joins leaves from) j → Contains (tree_owned leaves from) (as_owned j)
owned_of leaves from j among = subst (λ l. Contains l (as_owned j)) (sym (owned_is leaves from)) (mapped_among as_owned (tree_joins leaves from) j among)

-- the k-th node from a number on
numbered : (from : ℕ) (rs : List NodeRules) (k : ℕ) (d : Owned) → k < length rs → (get_or (owned_from from rs) k d).node ≡ from + k
numbered from [] k d lt = absurd (omega arith)
numbered from (r ∷ rs) zero d lt = omega arith
numbered from (r ∷ rs) (suc k) d lt = let e : (get_or (owned_from (from + 1) rs) k d).node ≡ from + 1 + k = numbered (from + 1) rs k d (omega arith) in
    omega (arith, e)

owned_length : (from : ℕ) (rs : List NodeRules) → length (owned_from from rs) ≡ length rs
owned_length from [] = refl
owned_length from (r ∷ rs) = let e : length (owned_from (from + 1) rs) ≡ length rs = owned_length (from + 1) rs in omega (arith, e)

-- a number behind the first has its node
a_node : (from : ℕ) (rs : List NodeRules) (k : ℕ) → k < length rs → (o : Owned) × Contains (owned_from from rs) o × (o.node ≡ from + k)
a_node from [] k lt = absurd (omega arith)
a_node from (r ∷ rs) zero lt = (owned from r, (0, omega arith, refl), omega arith)
a_node from (r ∷ rs) (suc k) lt =
    let (o, among, at) = a_node (from + 1) rs k (omega arith) in
    (o, Contains-append_right (owned from r ∷ []) (owned_from (from + 1) rs) o among, omega (arith, at))

abbrev pub Each : (ℕ → Type 0) → List ℕ → Type 0
Each P [] = Unit {0}
Each P (n ∷ ns) = P n × Each P ns

-- down a tree: what goes from a C-element to both inputs, and holds of the top, holds of all
level_down : (P : ℕ → Type 0) (ls : List ℕ) (from : ℕ) → ((j : Join) → Contains (level_joins ls from) j → P j.node → P j.left × P j.right) →
    Each P (next_level ls from) → Each P ls
level_down P [] from goes each = tt
level_down P (p ∷ []) from goes each = each
level_down P (p ∷ q ∷ ls) from goes each =
    let (l, r) = goes (join from p q) (Contains-append_left (join from p q ∷ []) (level_joins ls (from + 1)) (join from p q) (0, omega arith, refl)) each.0 in
    (l, (r, level_down P ls (from + 1) (λ j among. goes j (Contains-append_right (join from p q ∷ []) (level_joins ls (from + 1)) j among)) each.1))

level_up : (P : ℕ → Type 0) (ls : List ℕ) (from : ℕ) → ((j : Join) → Contains (level_joins ls from) j → P j.left → P j.right → P j.node) → Each P ls →
    Each P (next_level ls from)
level_up P [] from goes each = tt
level_up P (p ∷ []) from goes each = each
level_up P (p ∷ q ∷ ls) from goes each = (
  goes (join from p q) (Contains-append_left (join from p q ∷ []) (level_joins ls (from + 1)) (join from p q) (0, omega arith, refl)) each.0 each.1.0,
  level_up P ls (from + 1) (λ j among. goes j (Contains-append_right (join from p q ∷ []) (level_joins ls (from + 1)) j among)) each.1.1,
)

level_nodes : (P : ℕ → Type 0) (ls : List ℕ) (from : ℕ) → Each P (next_level ls from) → (j : Join) → Contains (level_joins ls from) j → P j.node
level_nodes P [] from each j among = absurd (none_among j among)
level_nodes P (p ∷ []) from each j among = absurd (none_among j among)
level_nodes P (p ∷ q ∷ ls) from each j among =
    one (among_cases (join from p q) (level_joins ls (from + 1)) j among) (level_nodes P ls (from + 1) each.1 j)
  where
    one : (join from p q ≡ j) ⊎ Contains (level_joins ls (from + 1)) j → (Contains (level_joins ls (from + 1)) j → P j.node) → P j.node
    one (inl e) others = subst (λ (x : Join). P x.node) e each.0
    one (inr rest) others = others rest

level_inputs : (P : ℕ → Type 0) (ls : List ℕ) (from : ℕ) → Each P ls → (j : Join) → Contains (level_joins ls from) j → P j.left × P j.right
level_inputs P [] from each j among = absurd (none_among j among)
level_inputs P (p ∷ []) from each j among = absurd (none_among j among)
level_inputs P (p ∷ q ∷ ls) from each j among =
    one (among_cases (join from p q) (level_joins ls (from + 1)) j among) (level_inputs P ls (from + 1) each.1.1 j)
  where
    one : (join from p q ≡ j) ⊎ Contains (level_joins ls (from + 1)) j → (Contains (level_joins ls (from + 1)) j → P j.left × P j.right) → P j.left × P j.right
    one (inl e) others = subst (λ (x : Join). P x.left × P x.right) e (each.0, each.1.0)
    one (inr rest) others = others rest

top_same : (ls : List ℕ) (from : ℕ) → tree_top (next_level ls from) (from + length ls / 2) ≡ tree_top ls from
top_same [] from = omega arith
top_same (p ∷ []) from = refl
top_same (p ∷ q ∷ ls) from = two (next_level ls (from + 1)) (next_length ls (from + 1))
  where
    two : (next : List ℕ) → length next ≡ length ls - length ls / 2 → tree_top (from ∷ next) (from + length (p ∷ q ∷ ls) / 2) ≡ from + length ls
    two [] e = omega (arith, e)
    two (n ∷ next) e = omega (arith, e)

pub record Down (P : ℕ → Type 0) (n : ℕ) (ls : List ℕ) (from : ℕ) : Type 0 where
  pub leaves : Each P ls
  pub nodes : (j : Join) → Contains (levels_joins n ls from) j → P j.node

few_left : (n : ℕ) (ls : List ℕ) (from : ℕ) → length ls ≤ suc (suc n) → length (next_level ls from) ≤ suc n
few_left n ls from few = omega (arith, next_length ls from)

pub down : (P : ℕ → Type 0) (n : ℕ) (ls : List ℕ) (from : ℕ) → length ls ≤ suc n →
    ((j : Join) → Contains (levels_joins n ls from) j → P j.node → P j.left × P j.right) → P (tree_top ls from) → Down P n ls from
down P zero [] from few goes top = record { leaves = tt; nodes = λ j among. absurd (none_among j among) }
down P zero (p ∷ []) from few goes top = record { leaves = (top, tt); nodes = λ j among. absurd (none_among j among) }
down P zero (p ∷ q ∷ ls) from few goes top = absurd (omega arith)
down P (suc n) ls from few goes top =
    let next = next_level ls from in
    let at : ℕ = from + length ls / 2 in
    let above = levels_joins n next at in
    let rest : Down P n next at = down P n next at (few_left n ls from few) (λ j among. goes j (Contains-append_right (level_joins ls from) above j among))
    (subst P (sym (top_same ls from)) top) in record {
      leaves = level_down P ls from (λ j among. goes j (Contains-append_left (level_joins ls from) above j among)) rest.leaves;
      nodes = λ j among. either (Contains-append_cases (level_joins ls from) above j among) (level_nodes P ls from rest.leaves j) (rest.nodes j);
    }
  where
    either : {A B C : Type 0} → A ⊎ B → (A → C) → (B → C) → C
    either (inl a) f g = f a
    either (inr b) f g = g b

pub record Up (P : ℕ → Type 0) (n : ℕ) (ls : List ℕ) (from : ℕ) : Type 0 where
  pub top : 0 < length ls → P (tree_top ls from)
  pub nodes : (j : Join) → Contains (levels_joins n ls from) j → P j.node

-- up a tree: what goes from both inputs to the C-element, and holds of the leaves, holds of all
pub up : (P : ℕ → Type 0) (n : ℕ) (ls : List ℕ) (from : ℕ) → length ls ≤ suc n →
    ((j : Join) → Contains (levels_joins n ls from) j → P j.left → P j.right → P j.node) → Each P ls → Up P n ls from
up P zero [] from few goes each = record { top = λ some. absurd (omega arith); nodes = λ j among. absurd (none_among j among) }
up P zero (p ∷ []) from few goes each = record { top = λ some. each.0; nodes = λ j among. absurd (none_among j among) }
up P zero (p ∷ q ∷ ls) from few goes each = absurd (omega arith)
up P (suc n) ls from few goes each =
    let next = next_level ls from in
    let at : ℕ = from + length ls / 2 in
    let above = levels_joins n next at in
    let higher : Each P next = level_up P ls from (λ j among. goes j (Contains-append_left (level_joins ls from) above j among)) each in
    let rest : Up P n next at = up P n next at (few_left n ls from few) (λ j among. goes j (Contains-append_right (level_joins ls from) above j among)) higher
    in record {
      top = λ some. subst P (top_same ls from) (rest.top (omega (arith, next_length ls from)));
      nodes = λ j among. either (Contains-append_cases (level_joins ls from) above j among) (level_nodes P ls from higher j) (rest.nodes j);
    }
  where
    either : {A B C : Type 0} → A ⊎ B → (A → C) → (B → C) → C
    either (inl a) f g = f a
    either (inr b) f g = g b

-- what holds of the leaves and of all C-elements holds of all inputs
pub inputs : (P : ℕ → Type 0) (n : ℕ) (ls : List ℕ) (from : ℕ) → Each P ls → ((j : Join) → Contains (levels_joins n ls from) j → P j.node) → (j : Join) →
    Contains (levels_joins n ls from) j → P j.left × P j.right
inputs P zero ls from each own j among = absurd (none_among j among)
inputs P (suc n) ls from each own j among =
    let next = next_level ls from in
    let at : ℕ = from + length ls / 2 in
    let above = levels_joins n next at in
    let higher : Each P next = level_up P ls from (λ k here l r. own k (Contains-append_left (level_joins ls from) above k here)) each in
    either (Contains-append_cases (level_joins ls from) above j among) (level_inputs P ls from each j)
    (inputs P n next at higher (λ k here. own k (Contains-append_right (level_joins ls from) above k here)) j)
  where
    either : {A B C : Type 0} → A ⊎ B → (A → C) → (B → C) → C
    either (inl a) f g = f a
    either (inr b) f g = g b

joins_length : (leaves : List ℕ) (from : ℕ) → length (tree_joins leaves from) ≡ length leaves - 1
joins_length leaves from = sym (length-map (tree_joins leaves from) as_owned)
    ∙ (ap length (sym (owned_is leaves from)) ∙ (owned_length from (tree_rules leaves from) ∙ tree_length leaves from))

join_at : (leaves : List ℕ) (from k : ℕ) (d : Join) → k < length (tree_joins leaves from) → (get_or (tree_joins leaves from) k d).node ≡ from + k
join_at leaves from k d lt =
    ap (λ (o : Owned). o.node) (sym (get_or-map as_owned (tree_joins leaves from) k d (as_owned d) lt))
    ∙ (ap (λ l. (get_or l k (as_owned d)).node) (sym (owned_is leaves from))
    ∙ numbered from (tree_rules leaves from) k (as_owned d) (omega (arith, lt, joins_length leaves from, tree_length leaves from)))

-- each node has one C-element
pub unique : (leaves : List ℕ) (from : ℕ) (j i : Join) → Contains (tree_joins leaves from) j → Contains (tree_joins leaves from) i → j.node ≡ i.node → j ≡ i
unique leaves from j i (k, within, is) (l, inside, same) e =
    let at : (get_or (tree_joins leaves from) k j).node ≡ from + k = join_at leaves from k j within in
    let also : (get_or (tree_joins leaves from) l i).node ≡ from + l = join_at leaves from l i inside in
    let here : k ≡ l = omega (arith, at, also, ap (λ (x : Join). x.node) is, ap (λ (x : Join). x.node) same, e) in
    sym is ∙ (ap (λ n. get_or (tree_joins leaves from) n j) here ∙ (get_or_default (tree_joins leaves from) l j i inside ∙ same))

-- the top has one, but where there is one leaf alone
pub top_join : (leaves : List ℕ) (from : ℕ) → 1 < length leaves → (j : Join) × Contains (tree_joins leaves from) j × (j.node ≡ tree_top leaves from)
top_join [] from long = absurd (omega arith)
top_join (p ∷ []) from long = absurd (omega arith)
top_join (p ∷ q ∷ ls) from long = of (a_node from (tree_rules (p ∷ q ∷ ls) from) (length ls) (omega (arith, tree_length (p ∷ q ∷ ls) from)))
  where
    back : (o : Owned) → o.node ≡ from + length ls → ((j : Join) × Contains (tree_joins (p ∷ q ∷ ls) from) j × (as_owned j ≡ o)) →
        (j : Join) × Contains (tree_joins (p ∷ q ∷ ls) from) j × (j.node ≡ from + length ls)
    back o at (j, here, is) = (j, here, ap (λ (x : Owned). x.node) is ∙ at)

    of : ((o : Owned) × Contains (tree_owned (p ∷ q ∷ ls) from) o × (o.node ≡ from + length ls)) → (j : Join) × Contains (tree_joins (p ∷ q ∷ ls) from) j
        × (j.node ≡ from + length ls)
    of (o, among, at) = back o at (join_of (p ∷ q ∷ ls) from o among)

pub some_joins : (leaves : List ℕ) (from : ℕ) (j : Join) → Contains (tree_joins leaves from) j → 1 < length leaves
some_joins leaves from j (k, within, is) = omega (arith, within, joins_length leaves from)
