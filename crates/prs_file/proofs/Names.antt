-- Each further name gets the next number.
use Rattle.std.proofs.Common.{◌≡◌, ℕ, suc, ◌-◌, ◌<◌, ◌≤◌, ◌⊎◌, inl, inr, Bool, true, false, cond, ltb, List, [], ◌∷◌, ◌++◌, length, get_or, set, Option, Some, None, refl, ap, sym, ◌∙◌, subst, arith}
use Rattle.std.specs.Prelude.{bytes_eq, option_map, Vec}
use Rattle.std.specs.BTreeMap.{UpdatesBy}
use Rattle.std.specs.Cmp.{eq_by_cmp_equiv}
use Rattle.std.specs.Cmp.Lexicographic.{slice_cmp, bytes_decides, nat_list_cmp_total, nat_list_eq_equiv}
use Rattle.std.specs.Map.{KeepsOthers}
use Rattle.std.specs.Ordering.{is_eq, nat_cmp}
use Rattle.std.specs.declared.alloc.Global.{Global}
use Rattle.std.proofs.lemmas.Bool.{lt-ltb, le-ltb, cases_order, cases_eq}
use Rattle.std.proofs.lemmas.List.{length-set, get_or-set_same, get_or-set_other, get_or_append_left, get_or_push, length_push}
use Rattle.std.proofs.lemmas.Map.Text.{is_eq-slice_cmp}
use Rattle.std.proofs.lemmas.Nat.{and_le_r}
use Rattle.prs_file.specs.Indexes.{place_in, Numbers, number_at, hash_of, slot_in, guess_for, IsIndexed}

abbrev Key : Type 0
Key = Vec ℕ Global

-- one more name
push_cases : (b e : Bool) (k : ℕ) (old new : Option ℕ) → (b ≡ true → e ≡ true → ⊥) → new ≡ cond e (Some k) old →
    cond b (Some 0) (option_map (λ k. suc k) new) ≡ cond e (Some (suc k)) (cond b (Some 0) (option_map (λ k. suc k) old))
push_cases true true k old new apart now = absurd (apart refl refl)
push_cases true false k old new apart now = refl
push_cases false true k old new apart now = ap (option_map (λ k. suc k)) now
push_cases false false k old new apart now = ap (option_map (λ k. suc k)) now

none_first : (b : Bool) (rest : Option ℕ) → cond b (Some 0) (option_map (λ k. suc k) rest) ≡ None → (b ≡ false) × (rest ≡ None)
none_first true rest e = absurd (cc e)
none_first false None e = (refl, refl)
none_first false (Some k) e = absurd (cc e)

pub place_push : (ns : List (List ℕ)) (n q : List ℕ) → place_in ns n ≡ None → place_in (ns ++ n ∷ []) q ≡ cond (bytes_eq n q) (Some (length ns)) (place_in ns q)
place_push [] n q fresh = refl
place_push (m ∷ ns) n q fresh =
    let parts = none_first (bytes_eq m n) (place_in ns n) fresh in
    push_cases (bytes_eq m q) (bytes_eq n q) (length ns) (place_in ns q) (place_in (ns ++ n ∷ []) q)
    (λ a b. absurd (cc (parts.0, (bytes_decides m n).1 ((bytes_decides m q).0 a ∙ sym ((bytes_decides n q).0 b)))))
    (place_push ns n q parts.1)

-- what a change at a key's bytes leaves at any bytes

abbrev Changed : Key → Numbers → Numbers → Option ℕ → Type 0
Changed key old new w = UpdatesBy (λ (a b : Key). slice_cmp nat_cmp a.items b.items) (λ (k : Key). slice_cmp nat_cmp key.items k.items) old new w

tied_apart : (bs q ks : List ℕ) → bytes_eq bs q ≡ false → is_eq (slice_cmp nat_cmp bs ks) ≡ true → is_eq (slice_cmp nat_cmp q ks) ≡ false
tied_apart bs q ks apart tied =
    let same : bs ≡ ks = (bytes_decides bs ks).0 (sym (is_eq-slice_cmp bs ks) ∙ tied) in
    is_eq-slice_cmp q ks ∙ (ap (bytes_eq q) (sym same) ∙ (nat_list_eq_equiv.symm q bs ∙ apart))

kept_at : (key : Key) (old new : Numbers) (w : Option ℕ) (q : List ℕ) → Changed key old new w → bytes_eq key.items q ≡ false →
    number_at new q ≡ number_at old q
unfolding KeepsOthers
kept_at key old new w q changed apart =
    changed.3 (λ (k : Key). is_eq (slice_cmp nat_cmp q k.items)) (λ a b. (eq_by_cmp_equiv nat_list_cmp_total).congr q a.items b.items)
    (λ k. tied_apart key.items q k.items apart)

changed_at : (key : Key) (old new : Numbers) (w : Option ℕ) (q : List ℕ) (b : Bool) → Changed key old new w → bytes_eq key.items q ≡ b →
    number_at new q ≡ cond b w (number_at old q)
changed_at key old new w q true changed is = ap (number_at new) (sym ((bytes_decides key.items q).0 is)) ∙ changed.1
changed_at key old new w q false changed is = kept_at key old new w q changed is

-- a name by the number in its slot: t, that it is some name's, e, that this is the name, and what the others have
abbrev by_guess : (t e : Bool) (guess : ℕ) (other : Option ℕ) → Option ℕ
by_guess t e guess other = cond t (cond e (Some guess) other) None

absent : (n w : Option ℕ) → (n ≡ None) ⊎ (n ≡ w) → w ≡ None → n ≡ None
absent n w (inl is) none = is
absent n w (inr is) none = is ∙ none

same_past : (n w : Option ℕ) → (n ≡ None) ⊎ (n ≡ w) → None ≡ w → n ≡ w
same_past n w (inl is) none = is ∙ none
same_past n w (inr is) none = is

-- one more name changes nothing for any other
other_kept : (names : List (List ℕ)) (name q : List ℕ) (g : ℕ) (o w : Option ℕ) → (o ≡ None) ⊎ (o ≡ w) → bytes_eq name q ≡ false →
    by_guess (ltb g (length names)) (bytes_eq (get_or names g []) q) g o ≡ w →
    by_guess (ltb g (length (names ++ name ∷ []))) (bytes_eq (get_or (names ++ name ∷ []) g []) q) g o ≡ w
other_kept names name q g o w known apart is = at (cases_order g (length names))
  where
    more : List (List ℕ)
    more = names ++ name ∷ []

    at : (g ≡ length names) ⊎ ((g < length names) ⊎ (length names < g)) → by_guess (ltb g (length more)) (bytes_eq (get_or more g []) q) g o ≡ w
    at (inl last) =
        ap (λ t. by_guess t (bytes_eq (get_or more g []) q) g o) (lt-ltb g (length more) (omega (arith, length_push names name)))
        ∙ ap (λ m. by_guess true (bytes_eq m q) g o) (get_or_push names name [] g (sym last)) ∙ ap (λ e. by_guess true e g o) apart
        ∙ same_past o w known (ap (λ t. by_guess t (bytes_eq (get_or names g []) q) g o) (sym (le-ltb g (length names) (omega (arith, last)))) ∙ is)
    at (inr (inl below)) =
        ap (λ t. by_guess t (bytes_eq (get_or more g []) q) g o) (lt-ltb g (length more) (omega (arith, length_push names name))
        ∙ sym (lt-ltb g (length names) below))
        ∙ ap (λ m. by_guess (ltb g (length names)) (bytes_eq m q) g o) (get_or_append_left names (name ∷ []) [] g below) ∙ is
    at (inr (inr past)) =
        ap (λ t. by_guess t (bytes_eq (get_or more g []) q) g o) (le-ltb g (length more) (omega (arith, length_push names name)))
        ∙ ap (λ t. by_guess t (bytes_eq (get_or names g []) q) g o) (sym (le-ltb g (length names) (omega (arith, past)))) ∙ is

known_more : (names : List (List ℕ)) (name q : List ℕ) (o : Option ℕ) (b : Bool) → place_in names name ≡ None → bytes_eq name q ≡ b →
    (o ≡ None) ⊎ (o ≡ place_in names q) → (o ≡ None) ⊎ (o ≡ place_in (names ++ name ∷ []) q)
known_more names name q o true fresh is known =
    inl (absent o (place_in names q) known (ap (place_in names) (sym ((bytes_decides name q).0 is)) ∙ fresh))
known_more names name q o false fresh is (inl none) = inl none
known_more names name q o false fresh is (inr same) =
    inr (same ∙ sym (place_push names name q fresh ∙ ap (λ b. cond b (Some (length names)) (place_in names q)) is))

pub slot_within : (count : ℕ) (name : List ℕ) → 0 < count → slot_in count name < count
slot_within count name some = omega (arith, and_le_r (hash_of name) (count - 1))

-- the next name, whose slot was free
pub noted_in_slot : (names : List (List ℕ)) (slots : List ℕ) (others : Numbers) (name : List ℕ) → IsIndexed names slots others →
    place_in names name ≡ None → length names ≤ get_or slots (slot_in (length slots) name) 0 →
    IsIndexed (names ++ name ∷ []) (set slots (slot_in (length slots) name) (length names)) others
noted_in_slot names slots others name so_far fresh free = record {
  some = omega (arith, length-set slots s n, so_far.some);
  found = λ q. ap (λ k. found_with (get_or after (slot_in k q) 0) q) (length-set slots s n) ∙ at q (cases_eq (slot_in (length slots) q) s);
  known = λ q. known_more names name q (number_at others q) (bytes_eq name q) fresh refl (so_far.known q);
}
  where
    s : ℕ
    s = slot_in (length slots) name

    n : ℕ
    n = length names

    after : List ℕ
    after = set slots s n

    more : List (List ℕ)
    more = names ++ name ∷ []

    found_with : ℕ → List ℕ → Option ℕ
    found_with g q = by_guess (ltb g (length more)) (bytes_eq (get_or more g []) q) g (number_at others q)

    here : (q : List ℕ) → slot_in (length slots) q ≡ s → place_in names q ≡ None
    here q same =
        sym (ap (λ t. by_guess t (bytes_eq (get_or names (guess_for slots q) []) q) (guess_for slots q) (number_at others q))
        (sym (le-ltb (guess_for slots q) n (subst (λ k. n ≤ get_or slots k 0) (sym same) free))) ∙ so_far.found q)

    apart : (q : List ℕ) (b : Bool) → (slot_in (length slots) q ≡ s → ⊥) → bytes_eq name q ≡ b → b ≡ false
    apart q true not is = absurd (not (ap (slot_in (length slots)) (sym ((bytes_decides name q).0 is))))
    apart q false not is = refl

    at : (q : List ℕ) → (slot_in (length slots) q ≡ s) ⊎ (slot_in (length slots) q ≡ s → ⊥) →
        found_with (get_or after (slot_in (length slots) q) 0) q ≡ place_in more q
    at q (inl same) =
        let none = here q same in
        ap (λ k. found_with (get_or after k 0) q) same ∙ ap (λ g. found_with g q) (get_or-set_same slots s n 0 (slot_within (length slots) name so_far.some))
        ∙ ap (λ t. by_guess t (bytes_eq (get_or more n []) q) n (number_at others q)) (lt-ltb n (length more) (omega (arith, length_push names name)))
        ∙ ap (λ m. by_guess true (bytes_eq m q) n (number_at others q)) (get_or_push names name [] n refl)
        ∙ ap (cond (bytes_eq name q) (Some n)) (absent (number_at others q) (place_in names q) (so_far.known q) none ∙ sym none)
        ∙ sym (place_push names name q fresh)
    at q (inr not) =
        let other = apart q (bytes_eq name q) not refl in
        ap (λ g. found_with g q) (get_or-set_other slots s (slot_in (length slots) q) n 0 not)
        ∙ other_kept names name q (guess_for slots q) (number_at others q) (place_in names q) (so_far.known q) other (so_far.found q)
        ∙ sym (place_push names name q fresh ∙ ap (λ b. cond b (Some n) (place_in names q)) other)

-- the next name, whose slot another one has
pub noted_with_others : (names : List (List ℕ)) (slots : List ℕ) (old new : Numbers) (key : Key) (name : List ℕ) → IsIndexed names slots old →
    key.items ≡ name → place_in names name ≡ None → get_or slots (slot_in (length slots) name) 0 < length names →
    Changed key old new (Some (length names)) → IsIndexed (names ++ name ∷ []) slots new
noted_with_others names slots old new key name so_far is fresh taken changed = record {
  some = so_far.some;
  found = λ q. at q (bytes_eq name q) refl;
  known = λ q. known q (bytes_eq name q) refl;
}
  where
    n : ℕ
    n = length names

    more : List (List ℕ)
    more = names ++ name ∷ []

    found_with : Option ℕ → List ℕ → Option ℕ
    found_with o q = by_guess (ltb (guess_for slots q) (length more)) (bytes_eq (get_or more (guess_for slots q) []) q) (guess_for slots q) o

    number : (q : List ℕ) (b : Bool) → bytes_eq name q ≡ b → number_at new q ≡ cond b (Some n) (number_at old q)
    number q b same = changed_at key old new (Some n) q b changed (ap (λ (bs : List ℕ). bytes_eq bs q) is ∙ same)

    place : (q : List ℕ) (b : Bool) → bytes_eq name q ≡ b → cond b (Some n) (place_in names q) ≡ place_in more q
    place q b same = sym (place_push names name q fresh ∙ ap (λ b. cond b (Some n) (place_in names q)) same)

    -- what stands in the slot isn't the name
    not_there : (g : ℕ) (e : Bool) (o : Option ℕ) → by_guess true e g o ≡ None → e ≡ false
    not_there g true o none = absurd (cc none)
    not_there g false o none = refl

    at_name : found_with (Some n) name ≡ Some n
    at_name =
        let g = guess_for slots name in
        let e = bytes_eq (get_or names g []) name in
        let other = not_there g e (number_at old name) (ap (λ t. by_guess t e g (number_at old name)) (sym (lt-ltb g n taken)) ∙ so_far.found name ∙ fresh) in
        ap (λ t. by_guess t (bytes_eq (get_or more g []) name) g (Some n)) (lt-ltb g (length more) (omega (arith, taken, length_push names name)))
        ∙ ap (λ m. by_guess true (bytes_eq m name) g (Some n)) (get_or_append_left names (name ∷ []) [] g taken)
        ∙ ap (λ e. by_guess true e g (Some n)) other

    at : (q : List ℕ) (b : Bool) → bytes_eq name q ≡ b → found_with (number_at new q) q ≡ place_in more q
    at q true same =
        ap (λ o. found_with o q) (number q true same) ∙ subst (λ q. found_with (Some n) q ≡ Some n) ((bytes_decides name q).0 same) at_name ∙ place q true same
    at q false same =
        ap (λ o. found_with o q) (number q false same)
        ∙ other_kept names name q (guess_for slots q) (number_at old q) (place_in names q) (so_far.known q) same (so_far.found q) ∙ place q false same

    known : (q : List ℕ) (b : Bool) → bytes_eq name q ≡ b → (number_at new q ≡ None) ⊎ (number_at new q ≡ place_in more q)
    known q true same = inr (number q true same ∙ place q true same)
    known q false same =
        subst (λ o. (o ≡ None) ⊎ (o ≡ place_in more q)) (sym (number q false same))
        (known_more names name q (number_at old q) false fresh same (so_far.known q))
