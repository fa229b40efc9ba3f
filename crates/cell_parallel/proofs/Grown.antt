-- A tree that grows level upon level.
use Rattle.std.proofs.Common.{◌≡◌, ℕ, zero, suc, ◌+◌, ◌-◌, ◌/◌, ◌≤◌, ◌<◌, List, [], ◌∷◌, ◌++◌, length, All, Contains, refl, sym, ap, subst, ◌∙◌, arith}
use Rattle.std.proofs.lemmas.List.Elements.{All-cons, All-tail, Contains-append_left, Contains-append_right}
use Rattle.prs_core.specs.Nets.{RulesValue, NodeRules, IsAlone}
use Rattle.prs_core.specs.Parts.{Owned, owned, owned_from, with_owned}
use Rattle.cell_parallel.specs.Trees.{level_rules, next_level, levels_rules, tree_rules, tree_owned}
use Rattle.cell_parallel.specs.Sizes.{level_length, next_length}
use Rattle.prs_core.specs.Writing.{IsOther, alone_on, with_append, other_left, other_right}
use Rattle.prs_core.specs.Partly.{IsPartly, partly_of, partly_on}
use Rattle.cell_parallel.proofs.Levels.{short_rules}

-- more levels than are needed are none
enough : (n m : ℕ) (ls : List ℕ) (from : ℕ) → length ls ≤ suc n → length ls ≤ suc m → levels_rules n ls from ≡ levels_rules m ls from
enough zero zero ls from h k = refl
enough zero (suc m) ls from h k =
    sym (ap (λ l. l ++ levels_rules m (next_level ls from) (from + length ls / 2)) (short_rules ls h)
    ∙ sym (enough zero m (next_level ls from) (from + length ls / 2) (omega (arith, next_length ls from)) (omega (arith, next_length ls from))))
enough (suc n) zero ls from h k =
    ap (λ l. l ++ levels_rules n (next_level ls from) (from + length ls / 2)) (short_rules ls k)
    ∙ enough n zero (next_level ls from) (from + length ls / 2) (omega (arith, next_length ls from)) (omega (arith, next_length ls from))
enough (suc n) (suc m) ls from h k =
    ap (λ l. level_rules ls ++ l) (enough n m (next_level ls from) (from + length ls / 2) (omega (arith, next_length ls from))
    (omega (arith, next_length ls from)))

-- a tree is its lowest level and the tree above that
pub tree_is : (ls : List ℕ) (from : ℕ) → tree_rules ls from ≡ level_rules ls ++ tree_rules (next_level ls from) (from + length ls / 2)
tree_is [] from = refl
tree_is (p ∷ ls) from = ap (λ l. level_rules (p ∷ ls) ++ l) (enough (length ls) (length (next_level (p ∷ ls) from)) (next_level (p ∷ ls) from)
    (from + length (p ∷ ls) / 2) (omega (arith, next_length (p ∷ ls) from)) (omega arith))

pub owned_append : (from : ℕ) (rs us : List NodeRules) → owned_from from (rs ++ us) ≡ owned_from from rs ++ owned_from (from + length rs) us
owned_append from [] us = let e : from + 0 ≡ from = omega arith in ap (λ k. owned_from k us) (sym e)
owned_append from (r ∷ rs) us = let e : from + 1 + length rs ≡ from + length (r ∷ rs) = omega arith in
    ap (λ l. owned from r ∷ l) (owned_append (from + 1) rs us ∙ ap (λ k. owned_from (from + 1) rs ++ owned_from k us) e)

pub tree_parts : (ls : List ℕ) (from : ℕ) → tree_owned ls from ≡ owned_from from (level_rules ls) ++ tree_owned (next_level ls from) (from + length ls / 2)
tree_parts ls from =
    ap (owned_from from) (tree_is ls from)
    ∙ (owned_append from (level_rules ls) (tree_rules (next_level ls from) (from + length ls / 2))
    ∙ ap (λ k. owned_from from (level_rules ls) ++ owned_from (from + k) (tree_rules (next_level ls from) (from + length ls / 2))) (level_length ls))

next_within : (bound : ℕ) (ls : List ℕ) (from : ℕ) → All (λ n. n < bound) ls → from + length ls / 2 ≤ bound → All (λ n. n < bound) (next_level ls from)
next_within bound [] from h few = h
next_within bound (p ∷ []) from h few = h
next_within bound (p ∷ q ∷ ls) from h few =
    let P : ℕ → Type 0 = λ n. n < bound in
    All-cons P from (next_level ls (from + 1)) (omega arith) (next_within bound ls (from + 1) (All-tail P q ls (All-tail P p (q ∷ ls) h)) (omega arith))

-- while the tree grows: the nodes of the level that is reached, and the number of the next node
pub record Grown (leaves : List ℕ) (from : ℕ) (old : RulesValue) (level : List ℕ) (next : ℕ) (now : RulesValue) : Type 0 where
  pub some : 0 < length level
  pub within : All (λ n. n < length old.up) level
  pub place : next + length level ≡ from + length leaves
  pub written : with_owned (tree_owned level next) now ≡ with_owned (tree_owned leaves from) old
  pub count : length now.up ≡ length old.up
  pub others : (node : ℕ) → IsOther node (tree_owned leaves from) → IsAlone old now node
  pub rest : (node : ℕ) → IsOther node (tree_owned leaves from) → IsOther node (tree_owned level next)
  pub partly : IsPartly (tree_owned leaves from) old now
  pub among : (o : Owned) → Contains (tree_owned level next) o → Contains (tree_owned leaves from) o

-- also where memory runs out in a level
pub grown_partly : (leaves : List ℕ) (from : ℕ) (old : RulesValue) (level : List ℕ) (next : ℕ) (now later : RulesValue) → Grown leaves from old level next now →
    IsPartly (owned_from next (level_rules level)) now later → IsPartly (tree_owned leaves from) old later
grown_partly leaves from old level next now later so_far some =
    let os : List Owned = owned_from next (level_rules level) in
    let us : List Owned = tree_owned (next_level level next) (next + length level / 2) in
    partly_on (tree_owned leaves from) old now later so_far.partly
    (partly_of os (tree_owned leaves from) now later
    (λ o k. so_far.among o (subst (λ l. Contains l o) (sym (tree_parts level next)) (Contains-append_left os us o k))) some)

pub grown_more : (leaves : List ℕ) (from : ℕ) (old : RulesValue) (level : List ℕ) (next : ℕ) (now : RulesValue) (above : List ℕ) (then : ℕ) (later : RulesValue)
    → Grown leaves from old level next now → from + length leaves ≤ length old.up + 1 → 1 < length level → above ≡ next_level level next →
    then ≡ next + length level / 2 → later ≡ with_owned (owned_from next (level_rules level)) now → length later.up ≡ length now.up →
    ((node : ℕ) → IsOther node (owned_from next (level_rules level)) → IsAlone now later node) → IsPartly (owned_from next (level_rules level)) now later →
    Grown leaves from old above then later
grown_more leaves from old level next now above then later so_far fits long up at is same far some =
    let size : length (next_level level next) ≡ length level - length level / 2 = next_length level next in
    let os : List Owned = owned_from next (level_rules level) in
    let us : List Owned = tree_owned (next_level level next) (next + length level / 2) in rw (up, at) record {
      some = omega (arith, size);
      within = next_within (length old.up) level next so_far.within (omega (arith, so_far.place));
      place = omega (arith, size, so_far.place);
      written = ap (with_owned us) is ∙ (sym (with_append os us now) ∙ (ap (λ l. with_owned l now) (sym (tree_parts level next)) ∙ so_far.written));
      count = same ∙ so_far.count;
      others = λ node o. alone_on old now later node (so_far.others node o)
          (far node (other_left node os us (subst (IsOther node) (tree_parts level next) (so_far.rest node o))));
      rest = λ node o. other_right node os us (subst (IsOther node) (tree_parts level next) (so_far.rest node o));
      partly = grown_partly leaves from old level next now later so_far some;
      among = λ o k. so_far.among o (subst (λ l. Contains l o) (sym (tree_parts level next)) (Contains-append_right os us o k));
    }

-- other nodes keep their guards where memory runs out in a level
pub grown_alone : (leaves : List ℕ) (from : ℕ) (old : RulesValue) (level : List ℕ) (next : ℕ) (now later : RulesValue) → Grown leaves from old level next now →
    ((node : ℕ) → IsOther node (owned_from next (level_rules level)) → IsAlone now later node) → (node : ℕ) → IsOther node (tree_owned leaves from) →
    IsAlone old later node
grown_alone leaves from old level next now later so_far far node o =
    let us : List Owned = tree_owned (next_level level next) (next + length level / 2) in
    alone_on old now later node (so_far.others node o)
    (far node (other_left node (owned_from next (level_rules level)) us (subst (IsOther node) (tree_parts level next) (so_far.rest node o))))
