-- A guard by the numbers of nodes, literal by literal.
use Rattle.std.proofs.Common.{◌≡◌, ℕ, suc, ◌+◌, ◌<◌, inl, inr, Bool, false, Some, List, [], ◌∷◌, ◌++◌, ◌≤◌, ◌-◌, length, map, get_or, take, drop, refl, ap, sym, ◌∙◌, subst, arith}
use Rattle.std.specs.Prelude.{◌⊎◌, All, is_none}
use Rattle.std.specs.List.{list_any}
use Rattle.std.proofs.lemmas.Bool.{or_from}
use Rattle.std.proofs.lemmas.List.{map-append, take_all}
use Rattle.std.proofs.lemmas.List.Elements.{All-nil, All-cons, All-head, All-tail, All-push}
use Rattle.std.proofs.lemmas.List.Folds.{list_any-append}
use Rattle.prs_core.specs.declared.rule.Literal.{Literal}
use Rattle.prs_core.specs.Nets.{GuardValue, IsBelow, IsFilled}
use Rattle.prs_file.specs.declared.forms.Lead.{Lead}
use Rattle.prs_file.specs.declared.forms.Lead.TheVariants.{Rule, And, Or}
use Rattle.prs_file.specs.declared.rule.Led.{Led}
use Rattle.prs_file.specs.Indexes.{place_in}
use Rattle.prs_file.specs.Named.{signed_by, guard_named, at_end, add_by}
use Rattle.prs_file.specs.Reading.{Signed, IsTermForm}
use Rattle.prs_file.specs.Terms.{signed_of, terms_of}
use Rattle.prs_file.proofs.TermPushes.{terms_push}
use Rattle.prs_file.proofs.Wirings.{place_found}

pub at_end_push : (ts : GuardValue) (t : List Literal) (l : Literal) → at_end l (ts ++ t ∷ []) ≡ ts ++ (t ++ l ∷ []) ∷ []
at_end_push [] t l = refl
at_end_push (u ∷ []) t l = refl
at_end_push (u ∷ v ∷ vs) t l = ap (λ g. u ∷ g) (at_end_push (v ∷ vs) t l)

end_named : (names : List (List ℕ)) (l : Literal) (g : GuardValue) → guard_named names (at_end l g) ≡ at_end (signed_by names l) (guard_named names g)
end_named names l [] = refl
end_named names l (t ∷ []) = ap (λ t. t ∷ []) (map-append (signed_by names) t (l ∷ []))
end_named names l (t ∷ u ∷ us) = ap (λ g. map (signed_by names) t ∷ g) (end_named names l (u ∷ us))

add_named : (names : List (List ℕ)) (lead : Lead) (l : Literal) (g : GuardValue) →
    guard_named names (add_by lead l g) ≡ add_by lead (signed_by names l) (guard_named names g)
add_named names Rule l g = end_named names l g
add_named names And l g = end_named names l g
add_named names Or l g = map-append (map (signed_by names)) g ((l ∷ []) ∷ [])

signed_is : (names : List (List ℕ)) (led : Led) (l : Literal) → l.high ≡ led.high → place_in names led.name ≡ Some l.node → signed_by names l ≡ signed_of led
signed_is names led l high at =
    let parts : Bool → List ℕ → Signed = λ h n. record { high = h; name = n } in
    ap (λ h. parts h (get_or names l.node [])) high ∙ ap (λ n. parts led.high n) (place_found names led.name l.node at).1

terms_more : (ls : List Led) (k : Led) → 0 < length ls → terms_of (ls ++ k ∷ []) ≡ add_by k.lead (signed_of k) (terms_of ls)
terms_more [] k some = absurd (omega arith)
terms_more (l ∷ ls) k some = terms_push l ls k

-- the first literal, and one literal more
pub named_first : (names : List (List ℕ)) (led : Led) (l : Literal) → l.high ≡ led.high → place_in names led.name ≡ Some l.node →
    guard_named names ((l ∷ []) ∷ []) ≡ terms_of (led ∷ [])
named_first names led l high at = ap (λ s. (s ∷ []) ∷ []) (signed_is names led l high at)

pub named_more : (names : List (List ℕ)) (ls : List Led) (led : Led) (l : Literal) (g now : GuardValue) → 0 < length ls → l.high ≡ led.high →
    place_in names led.name ≡ Some l.node → guard_named names g ≡ terms_of ls → now ≡ add_by led.lead l g → guard_named names now ≡ terms_of (ls ++ led ∷ [])
named_more names ls led l g now some high at is more =
    ap (guard_named names) more ∙ add_named names led.lead l g ∙ ap (λ s. add_by led.lead s (guard_named names g)) (signed_is names led l high at)
    ∙ ap (add_by led.lead (signed_of led)) is ∙ sym (terms_more ls led some)

end_below : (n : ℕ) (l : Literal) (g : GuardValue) → l.node < n → IsBelow n g → IsBelow n (at_end l g)
end_below n l [] below all = All-cons (All (λ (l : Literal). l.node < n)) (l ∷ []) []
    (All-cons (λ (l : Literal). l.node < n) l [] below (All-nil (λ (l : Literal). l.node < n))) (All-nil (All (λ (l : Literal). l.node < n)))
end_below n l (t ∷ []) below all =
    let P : List Literal → Type 0 = All (λ (l : Literal). l.node < n) in
    All-cons P (t ++ l ∷ []) [] (All-push (λ (l : Literal). l.node < n) t l (All-head P t [] all) below) (All-nil P)
end_below n l (t ∷ u ∷ us) below all =
    let P : List Literal → Type 0 = All (λ (l : Literal). l.node < n) in
    All-cons P t (at_end l (u ∷ us)) (All-head P t (u ∷ us) all) (end_below n l (u ∷ us) below (All-tail P t (u ∷ us) all))

add_below : (n : ℕ) (lead : Lead) (l : Literal) (g : GuardValue) → l.node < n → IsBelow n g → IsBelow n (add_by lead l g)
add_below n Rule l g below all = end_below n l g below all
add_below n And l g below all = end_below n l g below all
add_below n Or l g below all =
    let P : List Literal → Type 0 = All (λ (l : Literal). l.node < n) in
    All-push P g (l ∷ []) all (All-cons (λ (l : Literal). l.node < n) l [] below (All-nil (λ (l : Literal). l.node < n)))

pub below_first : (names : List (List ℕ)) (name : List ℕ) (l : Literal) → place_in names name ≡ Some l.node → IsBelow (length names) ((l ∷ []) ∷ [])
below_first names name l at = end_below (length names) l [] (place_found names name l.node at).0 (All-nil (All (λ (l : Literal). l.node < length names)))

pub below_more : (names : List (List ℕ)) (name : List ℕ) (lead : Lead) (l : Literal) (g now : GuardValue) → place_in names name ≡ Some l.node →
    IsBelow (length names) g → now ≡ add_by lead l g → IsBelow (length names) now
below_more names name lead l g now at all more =
    subst (IsBelow (length names)) (sym more) (add_below (length names) lead l g (place_found names name l.node at).0 all)

-- literals without a name
abbrev pub is_lost : List (List ℕ) → Led → Bool
is_lost names l = is_none (place_in names l.name)

pub none_more : (p : Led → Bool) (xs : List Led) (x : Led) → list_any p xs ≡ false → p x ≡ false → list_any p (xs ++ x ∷ []) ≡ false
none_more p xs x none is = list_any-append p xs (x ∷ []) ∙ or_from (list_any p xs) (list_any p (x ∷ [])) none (or_from (p x) false is refl)

-- no term is empty where none of its text is
pub filled : (names : List (List ℕ)) (g : GuardValue) (ts : List (List Signed)) → guard_named names g ≡ ts → All IsTermForm ts → IsFilled g
filled names [] ts is all = All-nil (λ (t : List Literal). 0 < length t)
filled names (t ∷ g) [] is all = absurd (cc is)
filled names ([] ∷ g) ([] ∷ ss) is all = absurd (omega (arith, (All-head IsTermForm [] ss all).some))
filled names ([] ∷ g) ((s ∷ r) ∷ ss) is all = absurd (cc is)
filled names ((l ∷ t) ∷ g) (s ∷ ss) is all =
    let rest : guard_named names g ≡ ss = cc is in
    All-cons (λ (t : List Literal). 0 < length t) (l ∷ t) g (omega arith) (filled names g ss rest (All-tail IsTermForm s ss all))

-- what is left of the terms and the last one when a literal was added
pub added_last : (lead : Lead) (l : Literal) (ts : GuardValue) (t : List Literal) (ts' : GuardValue) (t' : List Literal) → (lead ≡ Rule) ⊎ (lead ≡ And) →
    ts' ≡ ts → t' ≡ t ++ l ∷ [] → ts' ++ t' ∷ [] ≡ add_by lead l (ts ++ t ∷ [])
added_last lead l ts t ts' t' (inl is) same more = ap (λ us. us ++ t' ∷ []) same ∙ ap (λ u. ts ++ u ∷ []) more
    ∙ sym (ap (λ k. add_by k l (ts ++ t ∷ [])) is ∙ at_end_push ts t l)
added_last lead l ts t ts' t' (inr is) same more = ap (λ us. us ++ t' ∷ []) same ∙ ap (λ u. ts ++ u ∷ []) more
    ∙ sym (ap (λ k. add_by k l (ts ++ t ∷ [])) is ∙ at_end_push ts t l)

pub added_new : (lead : Lead) (l : Literal) (ts : GuardValue) (t : List Literal) (ts' : GuardValue) (t' : List Literal) → lead ≡ Or → ts' ≡ ts ++ t ∷ [] →
    t' ≡ l ∷ [] → ts' ++ t' ∷ [] ≡ add_by lead l (ts ++ t ∷ [])
added_new lead l ts t ts' t' is more fresh = ap (λ us. us ++ t' ∷ []) more ∙ ap (λ u. (ts ++ t ∷ []) ++ u ∷ []) fresh
    ∙ sym (ap (λ k. add_by k l (ts ++ t ∷ [])) is)

-- a literal behind the first one
abbrev pub behind_first : List Led → List Led
behind_first leds = take (length leds - 1) (drop 1 leds)

behind_is : (l : Led) (ls : List Led) → behind_first (l ∷ ls) ≡ ls
behind_is l ls = take_all (length (l ∷ ls) - 1) ls (omega arith)

pub further_item : (leds : List Led) (i : ℕ) (x : Led) → 1 ≤ length leds → i < length (behind_first leds) → x ≡ get_or (behind_first leds) i x →
    (i + 1 < length leds) × (x ≡ get_or leds (i + 1) x)
further_item [] i x some within is = absurd (omega arith)
further_item (l ∷ ls) i x some within is =
    let at : suc i ≡ i + 1 = omega arith in
    (omega (arith, ap length (behind_is l ls)), is ∙ ap (λ xs. get_or xs i x) (behind_is l ls) ∙ ap (λ n. get_or (l ∷ ls) n x) at)
