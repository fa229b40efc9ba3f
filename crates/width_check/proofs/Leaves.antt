-- Leaves: each is a part of its expression, and of at most 64 bits unless it is a join.
use Rattle.std.proofs.Common.{◌≡◌, ℕ, ◌+◌, ◌-◌, ◌<◌, ◌≤◌, Bool, true, false, List, [], ◌∷◌, ◌++◌, Option, Some, None, ⊎_elim, refl, subst, arith}
use Rattle.std.specs.Prelude.{◌||◌, nat_lt, nat_le, if◌then◌else◌, unwrap_or, Contains}
use Rattle.std.specs.Str.{bytes_eq}
use Rattle.std.proofs.lemmas.Bool.Decides.{nat_tests}
use Rattle.std.proofs.lemmas.List.Elements.{Contains-append_left, Contains-append_right, Contains-append_cases}
use Rattle.chp_syntax.specs.declared.tree.Decl.{Decl}
use Rattle.chp_syntax.specs.Trees.{Expression, number, whole, slice, bit, join, negation, chain, Expressions, no_parts, and_part, Links, no_links, and_link, ProgramTree}
use Rattle.width_check.specs.Places.{declaration, declared_width, compares, own_width, own_widths, Expected, expect, leaves, leaves_of_parts, leaves_of_links, expressions_in, inside, inside_parts, inside_links}
use Rattle.width_check.specs.Faults.{all_expressions, all_leaves, IsWideJoin}
use Rattle.width_check.specs.Sound.{AreRanged}
use Rattle.width_check.specs.Walk.{side_width, is_bad_part, is_out_of_range}
use Rattle.width_check.proofs.Least.{in_rest, front_or_rest, no_item}
use Rattle.width_check.proofs.Reasons.{in_flat_map, flat_map_in}

abbrev pub is_leaf : Expression → Bool
is_leaf (negation e at) = false
is_leaf (chain e more at) = compares more
is_leaf _ = true

pub record IsLeafOf (es : List Expression) (l : Expected) : Type 0 where
  pub among : Contains es l.expression
  pub leaf : is_leaf l.expression ≡ true

alone : (e : Expression) (w : ℕ) (l : Expected) → is_leaf e ≡ true → Contains (expect e w ∷ []) l → IsLeafOf (e ∷ []) l
alone e w l leaf c = ⊎_elim (λ (same : expect e w ≡ l). subst (λ (x : Expected). IsLeafOf (e ∷ []) x) same (record {
  among = (0, omega arith, refl);
  leaf =
      leaf;
})) (λ r. absurd (no_item l r)) (front_or_rest (expect e w) l [] c)

wider : (es fs : List Expression) (l : Expected) → ((x : Expression) → Contains es x → Contains fs x) → IsLeafOf es l → IsLeafOf fs l
wider es fs l move h = record { among = move l.expression h.among; leaf = h.leaf }

front_leaf : (e : Expression) (w : ℕ) (l : Expected) (es : List Expression) → is_leaf e ≡ true → expect e w ≡ l → IsLeafOf (e ∷ es) l
front_leaf e w l es leaf same = subst (λ (x : Expected). IsLeafOf (e ∷ es) x) same (record { among = (0, omega arith, refl); leaf = leaf })

chain_leaf : (decls : List Decl) (w : ℕ) (e : Expression) (more : Links) (at : _) (l : Expected) (b : Bool) → compares more ≡ b
    → ((v : ℕ) → Contains (leaves decls v e) l → IsLeafOf (inside e) l) → ((v : ℕ) → Contains (leaves_of_links decls v more) l → IsLeafOf (inside_links more) l)
    → Contains (leaves decls w (chain e more at)) l → IsLeafOf (inside (chain e more at)) l
chain_leaf decls w e more at l b is first rest c = by_test b is (rw is at c)
  where
    both : (v : ℕ) → Contains (leaves decls v e ++ leaves_of_links decls v more) l → IsLeafOf (inside (chain e more at)) l
    both v among =
        ⊎_elim
        (λ here. wider (inside e) (inside (chain e more at)) l
        (λ x k. in_rest (chain e more at) x (inside e ++ inside_links more) (Contains-append_left (inside e) (inside_links more) x k)) (first v here))
        (λ there. wider (inside_links more) (inside (chain e more at)) l
        (λ x k. in_rest (chain e more at) x (inside e ++ inside_links more) (Contains-append_right (inside e) (inside_links more) x k)) (rest v there))
        (Contains-append_cases (leaves decls v e) (leaves_of_links decls v more) l among)

    by_test : (d : Bool) → compares more ≡ d →
        Contains (if d then expect (chain e more at) w
        ∷ (leaves decls (unwrap_or (side_width decls e more) 0) e ++ leaves_of_links decls (unwrap_or (side_width decls e more) 0) more) else leaves decls w e
        ++ leaves_of_links decls w more) l → IsLeafOf (inside (chain e more at)) l
    by_test true so among = ⊎_elim (λ same. front_leaf (chain e more at) w l (inside e ++ inside_links more) so same)
        (λ k. both (unwrap_or (side_width decls e more) 0) k) (front_or_rest (expect (chain e more at) w) l _ among)
    by_test false so among = both w among

mutual
  pub leaf_inside : (decls : List Decl) (w : ℕ) (e : Expression) (l : Expected) → Contains (leaves decls w e) l → IsLeafOf (inside e) l
  leaf_inside decls w (number n at) l c = alone (number n at) w l refl c
  leaf_inside decls w (whole of) l c = alone (whole of) w l refl c
  leaf_inside decls w (slice of high low at) l c = alone (slice of high low at) w l refl c
  leaf_inside decls w (bit of place at) l c = alone (bit of place at) w l refl c
  leaf_inside decls w (join parts at) l c =
      ⊎_elim (λ same. front_leaf (join parts at) w l (inside_parts parts) refl same)
      (λ k. wider (inside_parts parts) (inside (join parts at)) l (λ x m. in_rest (join parts at) x (inside_parts parts) m)
      (part_leaf_inside decls parts l k)) (front_or_rest (expect (join parts at) w) l (leaves_of_parts decls parts) c)
  leaf_inside decls w (negation e at) l c =
      wider (inside e) (inside (negation e at)) l (λ x m. in_rest (negation e at) x (inside e) m) (leaf_inside decls w e l c)
  leaf_inside decls w (chain e more at) l c =
      chain_leaf decls w e more at l (compares more) refl (λ v k. leaf_inside decls v e l k) (λ v k. link_leaf_inside decls v more l k) c

  part_leaf_inside : (decls : List Decl) (parts : Expressions) (l : Expected) → Contains (leaves_of_parts decls parts) l → IsLeafOf (inside_parts parts) l
  part_leaf_inside decls no_parts l c = absurd (no_item l c)
  part_leaf_inside decls (and_part e more) l c =
      ⊎_elim
      (λ here. wider (inside e) (inside_parts (and_part e more)) l (λ x k. Contains-append_left (inside e) (inside_parts more) x k)
      (leaf_inside decls (unwrap_or (own_width decls e) 0) e l here))
      (λ there. wider (inside_parts more) (inside_parts (and_part e more)) l (λ x k. Contains-append_right (inside e) (inside_parts more) x k)
      (part_leaf_inside decls more l there))
      (Contains-append_cases (leaves decls (unwrap_or (own_width decls e) 0) e) (leaves_of_parts decls more) l c)

  link_leaf_inside : (decls : List Decl) (w : ℕ) (more : Links) (l : Expected) → Contains (leaves_of_links decls w more) l → IsLeafOf (inside_links more) l
  link_leaf_inside decls w no_links l c = absurd (no_item l c)
  link_leaf_inside decls w (and_link op e more) l c =
      ⊎_elim
      (λ here. wider (inside e) (inside_links (and_link op e more)) l (λ x k. Contains-append_left (inside e) (inside_links more) x k)
      (leaf_inside decls w e l here))
      (λ there. wider (inside_links more) (inside_links (and_link op e more)) l (λ x k. Contains-append_right (inside e) (inside_links more) x k)
      (link_leaf_inside decls w more l there))
      (Contains-append_cases (leaves decls w e) (leaves_of_links decls w more) l c)

pub leaf_of_program : (p : ProgramTree) (l : Expected) → Contains (all_leaves p) l → IsLeafOf (all_expressions p) l
leaf_of_program p l c =
    let e = in_flat_map (λ (x : Expected). leaves p.decls x.width x.expression) (expressions_in p.decls p.body) l c in
    wider (inside e.0.expression) (all_expressions p) l (λ x k. flat_map_in (λ (y : Expected). inside y.expression) (expressions_in p.decls p.body) e.0 x e.1 k)
    (leaf_inside p.decls e.0.width e.0.expression l e.2)

-- declared widths

pub declared_among : (ds : List Decl) (name : List ℕ) (d : Decl) → declaration ds name ≡ Some d → Contains ds d
declared_among [] name d is = absurd (cc is)
declared_among (e ∷ ds) name d is = by_test (bytes_eq e.name.name name) refl (λ rest. declared_among ds name d rest)
  where
    by_test : (b : Bool) → bytes_eq e.name.name name ≡ b → (declaration ds name ≡ Some d → Contains ds d) → Contains (e ∷ ds) d
    by_test true so rest = let here : e ≡ d = let x = rw so at is in cc x in (0, omega arith, here)
    by_test false so rest = in_rest e d ds (rest (rw so at is))

pub ranged_some : (d : Decl) → is_out_of_range d ≡ false → 1 ≤ d.width
ranged_some d h = by_test (nat_lt d.width 1) refl h
  where
    by_test : (b : Bool) → nat_lt d.width 1 ≡ b → (b || nat_lt 64 d.width) ≡ false → 1 ≤ d.width
    by_test true less is = absurd (cc is)
    by_test false less is = grind (arith, nat_tests)

pub ranged_most : (d : Decl) → is_out_of_range d ≡ false → d.width ≤ 64
ranged_most d h = by_test (nat_lt d.width 1) refl h
  where
    by_test : (b : Bool) → nat_lt d.width 1 ≡ b → (b || nat_lt 64 d.width) ≡ false → d.width ≤ 64
    by_test true less is = absurd (cc is)
    by_test false less is = grind (arith, nat_tests)

pub declared_most : (ds : List Decl) → AreRanged ds → (name : List ℕ) → declared_width ds name ≤ 64
declared_most ds ranged name = by_decl (declaration ds name) refl
  where
    by_decl : (o : Option Decl) → declaration ds name ≡ o → declared_width ds name ≤ 64
    by_decl None is = rw is (omega arith)
    by_decl (Some d) is = rw is (ranged_most d (ranged d (declared_among ds name d is)))

-- bits of a slice that isn't bad
pub good_slice : (w high low : ℕ) → (nat_lt high low || nat_le w high) ≡ false → (low ≤ high) × (high < w)
good_slice w high low h = by_test (nat_lt high low) refl h
  where
    by_test : (b : Bool) → nat_lt high low ≡ b → (b || nat_le w high) ≡ false → (low ≤ high) × (high < w)
    by_test true less is = absurd (cc is)
    by_test false less is = (grind (arith, nat_tests), grind (arith, nat_tests))

-- a leaf of more than 64 bits is a join
pub wide_leaf : (ds : List Decl) → AreRanged ds → (e : Expression) (v : ℕ) → is_leaf e ≡ true → is_bad_part ds e ≡ false → own_width ds e ≡ Some v → 64 < v →
    IsWideJoin ds e
wide_leaf ds ranged (number n at) v leaf good is wide = absurd (cc is)
wide_leaf ds ranged (whole of) v leaf good is wide = absurd (let e : declared_width ds of.name ≡ v = cc is in let most = declared_most ds ranged of.name in
    omega arith)
wide_leaf ds ranged (slice of high low at) v leaf good is wide =
    absurd (let e : high + 1 - low ≡ v = cc is in let most = declared_most ds ranged of.name in let bits =
    good_slice (declared_width ds of.name) high low good in omega (arith, bits.0, bits.1))
wide_leaf ds ranged (bit of place at) v leaf good is wide = absurd (let e : 1 ≡ v = cc is in omega arith)
wide_leaf ds ranged (join parts at) v leaf good is wide = let e : own_widths ds parts ≡ v = cc is in omega (arith, e)
wide_leaf ds ranged (negation e at) v leaf good is wide = absurd (cc leaf)
wide_leaf ds ranged (chain e more at) v leaf good is wide = absurd (let h : 1 ≡ v = let x = rw leaf at is in cc x in omega arith)
