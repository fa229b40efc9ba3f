-- The places of first declarations, one declaration after the other.
use Rattle.std.proofs.Common.{◌≡◌, ℕ, zero, suc, ◌+◌, ◌<◌, ◌≤◌, Bool, true, false, List, [], ◌∷◌, ◌++◌, length, get_or, take, Option, Some, None, cond, refl, sym, ap, ◌∙◌, subst, arith, length-append, length-take}
use Rattle.std.specs.Prelude.{slice_get, MatchOption, is_some}
use Rattle.std.specs.Str.{bytes_eq}
use Rattle.std.proofs.lemmas.List.{take_more, take_all}
use Rattle.std.proofs.lemmas.Slice.Eq.{bytes_eq-Decides}
use Rattle.chp_syntax.specs.declared.tree.Decl.{Decl}
use Rattle.width_check.specs.Places.{declaration}
use Rattle.call_merge.specs.FirstPlaces.{AreFirstPlaces}

got_some : (xs : List Decl) (k : ℕ) → k < length xs → (d : Decl) × (slice_get xs k ≡ Some d)
got_some [] k less = absurd (omega (arith, less))
got_some (x ∷ xs) zero less = (x, refl)
got_some (x ∷ xs) (suc k) less = got_some xs k (omega (arith, less))

got_left : (xs ys : List Decl) (k : ℕ) → k < length xs → slice_get (xs ++ ys) k ≡ slice_get xs k
got_left [] ys k less = absurd (omega (arith, less))
got_left (x ∷ xs) ys zero less = refl
got_left (x ∷ xs) ys (suc k) less = got_left xs ys k (omega (arith, less))

got_last : (xs : List Decl) (d : Decl) → slice_get (xs ++ d ∷ []) (length xs) ≡ Some d
got_last [] d = refl
got_last (x ∷ xs) d = got_last xs d

kept_there : (b : Bool) (x y : Decl) (o u : Option Decl) → (o ≡ Some y → u ≡ Some y) → cond b (Some x) o ≡ Some y → cond b (Some x) u ≡ Some y
kept_there true x y o u rest h = h
kept_there false x y o u rest h = rest h

found_there : (xs ys : List Decl) (name : List ℕ) (d : Decl) → declaration xs name ≡ Some d → declaration (xs ++ ys) name ≡ Some d
found_there [] ys name d h = absurd (cc h)
found_there (x ∷ xs) ys name d h =
    kept_there (bytes_eq x.name.name name) x d (declaration xs name) (declaration (xs ++ ys) name) (found_there xs ys name d) h

kept_behind : (b : Bool) (x : Decl) (o u t : Option Decl) → (o ≡ None → u ≡ t) → cond b (Some x) o ≡ None → cond b (Some x) u ≡ t
kept_behind true x o u t rest h = absurd (cc h)
kept_behind false x o u t rest h = rest h

found_behind : (xs ys : List Decl) (name : List ℕ) → declaration xs name ≡ None → declaration (xs ++ ys) name ≡ declaration ys name
found_behind [] ys name h = refl
found_behind (x ∷ xs) ys name h =
    kept_behind (bytes_eq x.name.name name) x (declaration xs name) (declaration (xs ++ ys) name) (declaration ys name) (found_behind xs ys name) h

abbrev IsFirstPlace : List Decl → List ℕ → Option ℕ → Type 0
IsFirstPlace ds name o = MatchOption o (declaration ds name ≡ None) (λ k. (k < length ds) × (declaration ds name ≡ slice_get ds k))

-- a name that the further declaration doesn't have, or an earlier one has
other_place : (xs : List Decl) (d : Decl) (name : List ℕ) (o : Option ℕ) → IsFirstPlace xs name o → (o ≡ None → bytes_eq d.name.name name ≡ false)
    → IsFirstPlace (xs ++ d ∷ []) name o
other_place xs d name None h apart = found_behind xs (d ∷ []) name h ∙ (let no = apart refl in rw no refl)
other_place xs d name (Some k) h apart =
    let got = got_some xs k h.0 in
    let longer = length-append xs (d ∷ []) in
    (omega (arith, h.0, longer), found_there xs (d ∷ []) name got.0 (h.1 ∙ got.1) ∙ sym (got_left xs (d ∷ []) k h.0 ∙ got.1))

own_place : (xs : List Decl) (d : Decl) (name : List ℕ) (i : ℕ) → i ≡ length xs → declaration xs name ≡ None → bytes_eq d.name.name name ≡ true
    → IsFirstPlace (xs ++ d ∷ []) name (Some i)
own_place xs d name i is none test =
    let longer : length (xs ++ d ∷ []) ≡ length xs + 1 = length-append xs (d ∷ []) in
    let here : declaration (d ∷ []) name ≡ Some d = rw test refl in
    (omega (arith, is, longer), found_behind xs (d ∷ []) name none ∙ (here ∙ sym (ap (slice_get (xs ++ d ∷ [])) is ∙ got_last xs d)))

no_longer : (xs : List Decl) (name : List ℕ) (o : Option ℕ) → IsFirstPlace xs name o → o ≡ None → declaration xs name ≡ None
no_longer xs name None h none = h
no_longer xs name (Some k) h none = absurd (cc none)

front_counted : (ds : List Decl) (i : ℕ) → i < length ds → i ≡ length (take i ds)
front_counted ds i within = let h = length-take i ds in omega (arith, h, within)

front_more : (ds : List Decl) (i : ℕ) (d : Decl) → i < length ds → d ≡ get_or ds i d → take (i + 1) ds ≡ take i ds ++ d ∷ []
front_more ds i d within is = take_more ds i d within ∙ ap (λ (x : Decl). take i ds ++ x ∷ []) (sym is)

pub place_known : (ds : List Decl) (i : ℕ) (d : Decl) (has : List ℕ → Option ℕ) → i < length ds → d ≡ get_or ds i d → AreFirstPlaces (take i ds) has
    → is_some (has d.name.name) ≡ true → AreFirstPlaces (take (i + 1) ds) has
place_known ds i d has within is so_far known name =
    subst (λ (xs : List Decl). IsFirstPlace xs name (has name)) (sym (front_more ds i d within is))
    (other_place (take i ds) d name (has name) (so_far name) (λ none. by_test none (bytes_eq d.name.name name) refl))
  where
    by_test : has name ≡ None → (b : Bool) → bytes_eq d.name.name name ≡ b → bytes_eq d.name.name name ≡ false
    by_test none false so = so
    by_test none true so =
        let same : d.name.name ≡ name = (bytes_eq-Decides d.name.name name).0 so in
        let clash : false ≡ true = sym (ap (λ (o : Option ℕ). is_some o) (ap has same ∙ none)) ∙ known in
        cc clash

pub place_more : (ds : List Decl) (i : ℕ) (d : Decl) (has now : List ℕ → Option ℕ) → i < length ds → d ≡ get_or ds i d → AreFirstPlaces (take i ds) has
    → is_some (has d.name.name) ≡ false → ((q : List ℕ) → now q ≡ cond (bytes_eq d.name.name q) (Some i) (has q)) → AreFirstPlaces (take (i + 1) ds) now
place_more ds i d has now within is so_far unknown added name =
    subst (λ (xs : List Decl). IsFirstPlace xs name (now name)) (sym (front_more ds i d within is))
    (subst (λ (o : Option ℕ). IsFirstPlace (take i ds ++ d ∷ []) name o) (sym (added name)) (by_test (bytes_eq d.name.name name) refl))
  where
    nothing : (o : Option ℕ) → is_some o ≡ false → o ≡ None
    nothing None h = refl
    nothing (Some k) h = absurd (cc h)

    by_test : (b : Bool) → bytes_eq d.name.name name ≡ b → IsFirstPlace (take i ds ++ d ∷ []) name (cond b (Some i) (has name))
    by_test true so =
        let same : d.name.name ≡ name = (bytes_eq-Decides d.name.name name).0 so in
        own_place (take i ds) d name i (front_counted ds i within)
        (no_longer (take i ds) name (has name) (so_far name) (ap has (sym same) ∙ nothing (has d.name.name) unknown)) so
    by_test false so = other_place (take i ds) d name (has name) (so_far name) (λ none. so)

pub places_done : (ds : List Decl) (i : ℕ) (has : List ℕ → Option ℕ) → length ds ≤ i → AreFirstPlaces (take i ds) has → AreFirstPlaces ds has
places_done ds i has over so_far = subst (λ (xs : List Decl). AreFirstPlaces xs has) (take_all i ds over) so_far

pub no_places : (has : List ℕ → Option ℕ) → ((q : List ℕ) → has q ≡ None) → AreFirstPlaces [] has
no_places has none name = subst (λ (o : Option ℕ). IsFirstPlace [] name o) (sym (none name)) refl
