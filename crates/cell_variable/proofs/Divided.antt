-- A variable's block is made of the variable's own nodes and its merges.
use Rattle.std.proofs.Common.{◌≡◌, ◌≢◌, ◌≤◌, ◌<◌, ℕ, zero, suc, ◌+◌, ◌*◌, List, [], ◌∷◌, ◌++◌, length, Contains, refl, sym, ap, subst, ◌∙◌, arith, ◌⊎◌, inl, inr}
use Rattle.std.specs.Prelude.{◌↔◌}
use Rattle.std.specs.List.{flat_map}
use Rattle.std.proofs.lemmas.List.Elements.{Contains-append_left, Contains-append_right, Contains-append_cases, Contains-get_or}
use Rattle.prs_core.specs.Nets.{RulesValue, NodeRules}
use Rattle.prs_core.specs.Pairs.{Pair, merged_true, merged_false}
use Rattle.prs_core.specs.Parts.{Owned, owned, owned_from, with_owned}
use Rattle.prs_core.specs.Turning.{none_among}
use Rattle.prs_core.specs.Writing.{IsOther, with_append, with_exchanged}
use Rattle.cell_parallel.specs.Trees.{tree_rules, tree_owned}
use Rattle.cell_variable.specs.Variables.{Bit, bit_at, bits_from, kept_rail, bit_written, bit_owned, bit_rules, bits_rules, written_leaves, variable_rules, variable_owned, merges_owned}
use Rattle.cell_variable.proofs.BitPlaces.{not_before}

owned_append : (from : ℕ) (rs us : List NodeRules) → owned_from from (rs ++ us) ≡ owned_from from rs ++ owned_from (from + length rs) us
owned_append from [] us = let e : from + 0 ≡ from = omega arith in ap (λ k. owned_from k us) (sym e)
owned_append from (r ∷ rs) us = let e : from + 1 + length rs ≡ from + length (r ∷ rs) = omega arith in
    ap (λ l. owned from r ∷ l) (owned_append (from + 1) rs us ∙ ap (λ k. owned_from (from + 1) rs ++ owned_from k us) e)

bits_length : (sites : List (List Pair)) (at width from : ℕ) → length (bits_rules sites at (bits_from width from)) ≡ 5 * width
bits_length sites at zero from = refl
bits_length sites at (suc n) from = let e : length (bits_rules sites (suc at) (bits_from n (from + 5))) ≡ 5 * n = bits_length sites (suc at) n (from + 5) in
    omega (arith, e)

-- the five nodes of a bit in the block's order
abbrev bit_block : (sites : List (List Pair)) → (at from : ℕ) → List Owned
bit_block sites at from =
    let b = bit_at from in
    owned from (kept_rail b.w.t b.x.f b.w.f)
    ∷ owned (from + 1) (kept_rail b.w.f b.x.t b.w.t)
    ∷ owned (from + 2) (merged_true sites at)
    ∷ owned (from + 3) (merged_false sites at)
    ∷ owned (from + 4) (bit_written b)
    ∷ []

block_is : (sites : List (List Pair)) (at from : ℕ) → owned_from from (bit_rules sites at (bit_at from)) ≡ bit_block sites at from
block_is sites at from =
    let two : from + 1 + 1 ≡ from + 2 = omega arith in
    let three : from + 1 + 1 + 1 ≡ from + 3 = omega arith in
    let four : from + 1 + 1 + 1 + 1 ≡ from + 4 = omega arith in
    let b = bit_at from in
    let t = owned from (kept_rail b.w.t b.x.f b.w.f) in
    let f = owned (from + 1) (kept_rail b.w.f b.x.t b.w.t) in
    ap (λ k. t ∷ f ∷ owned k (merged_true sites at) ∷ owned (from + 1 + 1 + 1) (merged_false sites at) ∷ owned (from + 1 + 1 + 1 + 1) (bit_written b) ∷ []) two
    ∙ (ap (λ k. t ∷ f ∷ owned (from + 2) (merged_true sites at) ∷ owned k (merged_false sites at) ∷ owned (from + 1 + 1 + 1 + 1) (bit_written b) ∷ []) three
    ∙ ap (λ k. t ∷ f ∷ owned (from + 2) (merged_true sites at) ∷ owned (from + 3) (merged_false sites at) ∷ owned k (bit_written b) ∷ []) four)

abbrev Own : (width from : ℕ) → List Owned
Own width from = flat_map bit_owned (bits_from width from)

abbrev Merges : (sites : List (List Pair)) → (at width from : ℕ) → List Owned
Merges sites at width from = merges_owned sites at (bits_from width from)

bits_block : (sites : List (List Pair)) (at n from : ℕ) → owned_from from (bits_rules sites at (bits_from (suc n) from)) ≡ bit_block sites at from
    ++ owned_from (from + 5) (bits_rules sites (suc at) (bits_from n (from + 5)))
bits_block sites at n from =
    owned_append from (bit_rules sites at (bit_at from)) (bits_rules sites (suc at) (bits_from n (from + 5)))
    ∙ ap (λ l. l ++ owned_from (from + 5) (bits_rules sites (suc at) (bits_from n (from + 5)))) (block_is sites at from)

-- for the bits alone, both ways
divided : (sites : List (List Pair)) (at width from : ℕ) (o : Owned) → Contains (owned_from from (bits_rules sites at (bits_from width from))) o →
    Contains (Own width from) o ⊎ Contains (Merges sites at width from) o
divided sites at zero from o among = absurd (none_among o among)
divided sites at (suc n) from o among =
    by (Contains-append_cases (bit_block sites at from) (owned_from (from + 5) (bits_rules sites (suc at) (bits_from n (from + 5)))) o
    (subst (λ l. Contains l o) (bits_block sites at n from) among)) (divided sites (suc at) n (from + 5) o)
  where
    b : Bit
    b = bit_at from

    mine : Contains (bit_owned b) o → Contains (Own (suc n) from) o ⊎ Contains (Merges sites at (suc n) from) o
    mine here = inl (Contains-append_left (bit_owned b) (Own n (from + 5)) o here)

    pair : List Owned
    pair = owned b.w.t (merged_true sites at) ∷ owned b.w.f (merged_false sites at) ∷ []

    merged : Contains pair o → Contains (Own (suc n) from) o ⊎ Contains (Merges sites at (suc n) from) o
    merged here = inr (Contains-append_left pair (Merges sites (suc at) n (from + 5)) o here)

    one : Contains (bit_block sites at from) o → Contains (Own (suc n) from) o ⊎ Contains (Merges sites at (suc n) from) o
    one (zero, less, is) = mine (0, omega arith, is)
    one (suc zero, less, is) = mine (1, omega arith, is)
    one (suc (suc zero), less, is) = merged (0, omega arith, is)
    one (suc (suc (suc zero)), less, is) = merged (1, omega arith, is)
    one (suc (suc (suc (suc zero))), less, is) = mine (2, omega arith, is)
    one (suc (suc (suc (suc (suc k)))), less, is) = absurd (omega arith)

    rest : Contains (Own n (from + 5)) o ⊎ Contains (Merges sites (suc at) n (from + 5)) o →
        Contains (Own (suc n) from) o ⊎ Contains (Merges sites at (suc n) from) o
    rest (inl there) = inl (Contains-append_right (bit_owned b) (Own n (from + 5)) o there)
    rest (inr there) = inr (Contains-append_right pair (Merges sites (suc at) n (from + 5)) o there)

    by : Contains (bit_block sites at from) o ⊎ Contains (owned_from (from + 5) (bits_rules sites (suc at) (bits_from n (from + 5)))) o →
        (Contains (owned_from (from + 5) (bits_rules sites (suc at) (bits_from n (from + 5)))) o →
        Contains (Own n (from + 5)) o ⊎ Contains (Merges sites (suc at) n (from + 5)) o) →
        Contains (Own (suc n) from) o ⊎ Contains (Merges sites at (suc n) from) o
    by (inl here) deeper = one here
    by (inr there) deeper = rest (deeper there)

joined : (sites : List (List Pair)) (at width from : ℕ) (o : Owned) → Contains (Own width from) o ⊎ Contains (Merges sites at width from) o →
    Contains (owned_from from (bits_rules sites at (bits_from width from))) o
joined sites at zero from o (inl among) = absurd (none_among o among)
joined sites at zero from o (inr among) = absurd (none_among o among)
joined sites at (suc n) from o either =
    subst (λ l. Contains l o) (sym (bits_block sites at n from)) (by either (joined sites (suc at) n (from + 5) o))
  where
    b : Bit
    b = bit_at from

    block : List Owned
    block = bit_block sites at from

    deeper : List Owned
    deeper = owned_from (from + 5) (bits_rules sites (suc at) (bits_from n (from + 5)))

    pair : List Owned
    pair = owned b.w.t (merged_true sites at) ∷ owned b.w.f (merged_false sites at) ∷ []

    mine : Contains (bit_owned b) o → Contains (block ++ deeper) o
    mine (zero, less, is) = Contains-append_left block deeper o (0, omega arith, is)
    mine (suc zero, less, is) = Contains-append_left block deeper o (1, omega arith, is)
    mine (suc (suc zero), less, is) = Contains-append_left block deeper o (4, omega arith, is)
    mine (suc (suc (suc k)), less, is) = absurd (omega arith)

    merged : Contains pair o → Contains (block ++ deeper) o
    merged (zero, less, is) = Contains-append_left block deeper o (2, omega arith, is)
    merged (suc zero, less, is) = Contains-append_left block deeper o (3, omega arith, is)
    merged (suc (suc k), less, is) = absurd (omega arith)

    by : Contains (Own (suc n) from) o ⊎ Contains (Merges sites at (suc n) from) o →
        (Contains (Own n (from + 5)) o ⊎ Contains (Merges sites (suc at) n (from + 5)) o → Contains deeper o) → Contains (block ++ deeper) o
    by (inl own) rest = left (Contains-append_cases (bit_owned b) (Own n (from + 5)) o own)
      where
        left : Contains (bit_owned b) o ⊎ Contains (Own n (from + 5)) o → Contains (block ++ deeper) o
        left (inl here) = mine here
        left (inr there) = Contains-append_right block deeper o (rest (inl there))
    by (inr merges) rest = right (Contains-append_cases pair (Merges sites (suc at) n (from + 5)) o merges)
      where
        right : Contains pair o ⊎ Contains (Merges sites (suc at) n (from + 5)) o → Contains (block ++ deeper) o
        right (inl here) = merged here
        right (inr there) = Contains-append_right block deeper o (rest (inr there))

pub variable_divided : (width from : ℕ) (sites : List (List Pair)) (o : Owned) →
    Contains (owned_from from (variable_rules width from sites)) o ↔ Contains (variable_owned width from ++ merges_owned sites 0 (bits_from width from)) o
variable_divided width from sites o = (apart, together)
  where
    bits : List Owned
    bits = owned_from from (bits_rules sites 0 (bits_from width from))

    tree : List Owned
    tree = tree_owned (written_leaves width from) (from + 5 * width)

    own : List Owned
    own = Own width from

    merges : List Owned
    merges = Merges sites 0 width from

    whole : owned_from from (variable_rules width from sites) ≡ bits ++ tree
    whole =
        owned_append from (bits_rules sites 0 (bits_from width from)) (tree_rules (written_leaves width from) (from + 5 * width))
        ∙ ap (λ k. bits ++ owned_from (from + k) (tree_rules (written_leaves width from) (from + 5 * width))) (bits_length sites 0 width from)

    apart : Contains (owned_from from (variable_rules width from sites)) o → Contains ((own ++ tree) ++ merges) o
    apart among = by (Contains-append_cases bits tree o (subst (λ l. Contains l o) whole among))
      where
        split : Contains own o ⊎ Contains merges o → Contains ((own ++ tree) ++ merges) o
        split (inl mine) = Contains-append_left (own ++ tree) merges o (Contains-append_left own tree o mine)
        split (inr merged) = Contains-append_right (own ++ tree) merges o merged

        by : Contains bits o ⊎ Contains tree o → Contains ((own ++ tree) ++ merges) o
        by (inr there) = Contains-append_left (own ++ tree) merges o (Contains-append_right own tree o there)
        by (inl here) = split (divided sites 0 width from o here)

    together : Contains ((own ++ tree) ++ merges) o → Contains (owned_from from (variable_rules width from sites)) o
    together among = subst (λ l. Contains l o) (sym whole) (by (Contains-append_cases (own ++ tree) merges o among))
      where
        inner : Contains own o ⊎ Contains tree o → Contains (bits ++ tree) o
        inner (inl mine) = Contains-append_left bits tree o (joined sites 0 width from o (inl mine))
        inner (inr there) = Contains-append_right bits tree o there

        by : Contains (own ++ tree) o ⊎ Contains merges o → Contains (bits ++ tree) o
        by (inr merged) = Contains-append_left bits tree o (joined sites 0 width from o (inr merged))
        by (inl there) = inner (Contains-append_cases own tree o there)

-- the merges of the bits lie before what follows the bits, and the nodes of the bits behind the first of them
merges_before : (sites : List (List Pair)) (at width from : ℕ) (o : Owned) → Contains (Merges sites at width from) o → o.node < from + 5 * width
merges_before sites at zero from o among = absurd (none_among o among)
merges_before sites at (suc n) from o (zero, within, is) = let e : from + 2 ≡ o.node = ap (λ (x : Owned). x.node) is in omega (arith, e)
merges_before sites at (suc n) from o (suc zero, within, is) = let e : from + 3 ≡ o.node = ap (λ (x : Owned). x.node) is in omega (arith, e)
merges_before sites at (suc n) from o (suc (suc k), within, is) = let less : o.node < from + 5 + 5 * n =
    merges_before sites (suc at) n (from + 5) o (k, omega arith, is) in omega (arith, less)

own_behind : (width from : ℕ) (o : Owned) → Contains (Own width from) o → from ≤ o.node
own_behind zero from o among = absurd (none_among o among)
own_behind (suc n) from o (zero, within, is) = let e : from ≡ o.node = ap (λ (x : Owned). x.node) is in omega (arith, e)
own_behind (suc n) from o (suc zero, within, is) = let e : from + 1 ≡ o.node = ap (λ (x : Owned). x.node) is in omega (arith, e)
own_behind (suc n) from o (suc (suc zero), within, is) = let e : from + 4 ≡ o.node = ap (λ (x : Owned). x.node) is in omega (arith, e)
own_behind (suc n) from o (suc (suc (suc k)), within, is) = let less : from + 5 ≤ o.node = own_behind n (from + 5) o (k, omega arith, is) in omega (arith, less)

others_from : (node : ℕ) (os : List Owned) → ((o : Owned) → Contains os o → o.node ≢ node) → IsOther node os
others_from node os far k d within = far _ (Contains-get_or os k d within)

abbrev Pair_of : (sites : List (List Pair)) → (at from : ℕ) → List Owned
Pair_of sites at from = owned (from + 2) (merged_true sites at) ∷ owned (from + 3) (merged_false sites at) ∷ []

-- a bit's block is written as its own nodes and then its merges
block_written : (sites : List (List Pair)) (at from : ℕ) (r : RulesValue) →
    with_owned (bit_block sites at from) r ≡ with_owned (Pair_of sites at from) (with_owned (bit_owned (bit_at from)) r)
block_written sites at from r =
    let b = bit_at from in
    with_exchanged (Pair_of sites at from) (owned (from + 4) (bit_written b) ∷ [])
    (with_owned (owned from (kept_rail b.w.t b.x.f b.w.f) ∷ owned (from + 1) (kept_rail b.w.f b.x.t b.w.t) ∷ []) r)
    (λ o among. others_from o.node (owned (from + 4) (bit_written b) ∷ []) (λ x here e. apart o among (only x here ∙ e)))
  where
    only : (x : Owned) → Contains (owned (from + 4) (bit_written (bit_at from)) ∷ []) x → from + 4 ≡ x.node
    only x (zero, within, is) = ap (λ (y : Owned). y.node) is
    only x (suc k, within, is) = absurd (omega arith)

    apart : (o : Owned) → Contains (Pair_of sites at from) o → from + 4 ≢ o.node
    apart o (zero, within, is) e = let same : from + 2 ≡ o.node = ap (λ (y : Owned). y.node) is in omega (arith, same, e)
    apart o (suc zero, within, is) e = let same : from + 3 ≡ o.node = ap (λ (y : Owned). y.node) is in omega (arith, same, e)
    apart o (suc (suc k), within, is) e = absurd (omega arith)

pair_past : (sites : List (List Pair)) (at n from : ℕ) (r : RulesValue) →
    with_owned (Own n (from + 5)) (with_owned (Pair_of sites at from) r) ≡ with_owned (Pair_of sites at from) (with_owned (Own n (from + 5)) r)
pair_past sites at n from r =
    with_exchanged (Pair_of sites at from) (Own n (from + 5)) r (λ o among. others_from o.node (Own n (from + 5)) (λ x here e. apart o among x here e))
    ∙ with_append (Own n (from + 5)) (Pair_of sites at from) r
  where
    apart : (o : Owned) → Contains (Pair_of sites at from) o → (x : Owned) → Contains (Own n (from + 5)) x → x.node ≢ o.node
    apart o (zero, within, is) x here e = let same : from + 2 ≡ o.node = ap (λ (y : Owned). y.node) is in let far = own_behind n (from + 5) x here in
        omega (arith, same, far, e)
    apart o (suc zero, within, is) x here e = let same : from + 3 ≡ o.node = ap (λ (y : Owned). y.node) is in let far = own_behind n (from + 5) x here in
        omega (arith, same, far, e)
    apart o (suc (suc k), within, is) x here e = absurd (omega arith)

bits_written : (sites : List (List Pair)) (at width from : ℕ) (r : RulesValue) →
    with_owned (owned_from from (bits_rules sites at (bits_from width from))) r ≡ with_owned (Merges sites at width from) (with_owned (Own width from) r)
bits_written sites at zero from r = refl
bits_written sites at (suc n) from r =
    let deeper = owned_from (from + 5) (bits_rules sites (suc at) (bits_from n (from + 5))) in
    let pair = Pair_of sites at from in
    let mine = with_owned (bit_owned (bit_at from)) r in
    let merges = Merges sites (suc at) n (from + 5) in
    ap (λ l. with_owned l r) (bits_block sites at n from)
    ∙ (with_append (bit_block sites at from) deeper r
    ∙ (ap (with_owned deeper) (block_written sites at from r)
    ∙ (bits_written sites (suc at) n (from + 5) (with_owned pair mine)
    ∙ (ap (with_owned merges) (pair_past sites at n from mine)
    ∙ ap (λ x. with_owned merges (with_owned pair x)) (sym (with_append (bit_owned (bit_at from)) (Own n (from + 5)) r))))))

pub variable_written : (width from : ℕ) (sites : List (List Pair)) (r : RulesValue) →
    with_owned (merges_owned sites 0 (bits_from width from)) (with_owned (variable_owned width from) r) ≡
    with_owned (owned_from from (variable_rules width from sites)) r
variable_written width from sites r =
    sym (ap (λ l. with_owned l r) whole
    ∙ (with_append bits tree r
    ∙ (ap (with_owned tree) (bits_written sites 0 width from r)
    ∙ (sym (with_append merges tree (with_owned own r))
    ∙ (with_exchanged merges tree (with_owned own r) (λ o among. others_from o.node tree (λ x here e. let before = merges_before sites 0 width from o among in
    let behind = not_before (from + 5 * width) (tree_rules (written_leaves width from) (from + 5 * width)) x here in omega (arith, before, behind, e)))
    ∙ (with_append tree merges (with_owned own r)
    ∙ ap (with_owned merges) (sym (with_append own tree r))))))))
  where
    bits : List Owned
    bits = owned_from from (bits_rules sites 0 (bits_from width from))

    tree : List Owned
    tree = tree_owned (written_leaves width from) (from + 5 * width)

    own : List Owned
    own = Own width from

    merges : List Owned
    merges = Merges sites 0 width from

    whole : owned_from from (variable_rules width from sites) ≡ bits ++ tree
    whole =
        owned_append from (bits_rules sites 0 (bits_from width from)) (tree_rules (written_leaves width from) (from + 5 * width))
        ∙ ap (λ k. bits ++ owned_from (from + k) (tree_rules (written_leaves width from) (from + 5 * width))) (bits_length sites 0 width from)
