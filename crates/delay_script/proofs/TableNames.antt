-- The table of names, one name after the other.
use Rattle.std.proofs.Common.{◌≡◌, ◌≢◌, ℕ, zero, suc, ◌+◌, ◌<◌, ◌≤◌, Bool, true, false, cond, Option, Some, None, List, [], ◌∷◌, ◌++◌, length, get_or, take, refl, sym, ap, ◌∙◌, subst, inl, inr, arith, length-take, Contains}
use Rattle.std.specs.Prelude.{◌⊎◌, bytes_eq, MatchOption, IfNone}
use Rattle.std.specs.Cmp.Lexicographic.{bytes_decides}
use Rattle.std.proofs.Math.Seq.{get_or-append_seam}
use Rattle.std.proofs.lemmas.List.{get_or_append_left, length-append, take_more, take_all}
use Rattle.std.proofs.lemmas.List.Elements.{Contains-append_cases}
use Rattle.env_script.proofs.OneMore.{other_name}
use Rattle.delay_script.specs.NameTables.{IsNodePlace, Places, place_in_table, IsNameTable}

abbrev IsFound : List (List ℕ) → List ℕ → Option ℕ → Type 0
IsFound names name o = MatchOption o (Contains names name → ⊥) (IsNodePlace names name)

none_of_none : (name : List ℕ) → Contains [] name → ⊥
none_of_none name there = let less : there.0 < 0 = there.1 in omega arith

pub table_begun : (places : Places) → places.entries ≡ [] → IsNameTable [] places
table_begun places empty name = rw empty (none_of_none name)

last_place : (xs : List (List ℕ)) (y q : List ℕ) → y ≡ q → IsNodePlace (xs ++ y ∷ []) q (length xs)
last_place xs y q same = record {
  within = omega (arith, length-append xs (y ∷ []));
  is = get_or-append_seam xs y [] [] ∙ same;
}

still_there : (xs : List (List ℕ)) (y q : List ℕ) (k : ℕ) → IsNodePlace xs q k → IsNodePlace (xs ++ y ∷ []) q k
still_there xs y q k here = record {
  within = omega (arith, here.within, length-append xs (y ∷ []));
  is = get_or_append_left xs (y ∷ []) [] k here.within ∙ here.is;
}

only_one : (y q : List ℕ) (k : ℕ) → k < 1 → get_or (y ∷ []) k q ≡ q → y ≡ q
only_one y q zero within is = is
only_one y q (suc k) within is = absurd (omega arith)

still_none : (xs : List (List ℕ)) (y q : List ℕ) → (Contains xs q → ⊥) → y ≢ q → Contains (xs ++ y ∷ []) q → ⊥
still_none xs y q none apart there = by_part (Contains-append_cases xs (y ∷ []) q there)
  where
    by_part : Contains xs q ⊎ Contains (y ∷ []) q → ⊥
    by_part (inl front) = none front
    by_part (inr last) = apart (only_one y q last.0 last.1 last.2)

found_more : (xs : List (List ℕ)) (y q : List ℕ) (o : Option ℕ) (b : Bool) → bytes_eq y q ≡ b → IsFound xs q o →
    IsFound (xs ++ y ∷ []) q (cond b (Some (length xs)) o)
found_more xs y q o true is so_far = last_place xs y q ((bytes_decides y q).0 is)
found_more xs y q None false is so_far = still_none xs y q so_far (other_name y q is)
found_more xs y q (Some k) false is so_far = still_there xs y q k so_far

pub table_more : (names : List (List ℕ)) (k : ℕ) (n called : List ℕ) (old new : Places) → k < length names → n ≡ get_or names k n → called ≡ n →
    IsNameTable (take k names) old → ((name : List ℕ) → place_in_table new name ≡ cond (bytes_eq called name) (Some k) (place_in_table old name)) →
    IsNameTable (take (k + 1) names) new
table_more names k n called old new within is same so_far added name =
    subst (λ (xs : List (List ℕ)). IsFound xs name (place_in_table new name)) (sym front)
    (subst (IsFound (take k names ++ n ∷ []) name) (sym found)
    (found_more (take k names) n name (place_in_table old name) (bytes_eq n name) refl (so_far name)))
  where
    front : take (k + 1) names ≡ take k names ++ n ∷ []
    front = take_more names k n within ∙ ap (λ (x : List ℕ). take k names ++ x ∷ []) (sym is)

    count : length (take k names) ≡ k
    count = let h = length-take k names in omega (arith, h, within)

    found : place_in_table new name ≡ cond (bytes_eq n name) (Some (length (take k names))) (place_in_table old name)
    found = added name ∙ (ap (λ (v : List ℕ). cond (bytes_eq v name) (Some k) (place_in_table old name)) same
        ∙ ap (λ (j : ℕ). cond (bytes_eq n name) (Some j) (place_in_table old name)) (sym count))

pub table_done : (names : List (List ℕ)) (k : ℕ) (places : Places) → length names ≤ k → IsNameTable (take k names) places → IsNameTable names places
table_done names k places past so_far = subst (λ (xs : List (List ℕ)). IsNameTable xs places) (take_all k names past) so_far

-- what is not found is not there
pub none_found : (names here : List (List ℕ)) (name called : List ℕ) (o p : Option ℕ) → names ≡ here → called ≡ name → o ≡ p → IsFound names called p →
    IfNone o (Contains here name → ⊥)
none_found names here name called o p is same found_so found = subst (λ (r : Option ℕ). IfNone r (Contains here name → ⊥)) (sym found_so) (by_answer p found)
  where
    by_answer : (r : Option ℕ) → IsFound names called r → IfNone r (Contains here name → ⊥)
    by_answer None none = rw (sym is, sym same) none
    by_answer (Some k) there = tt
