-- Wires looked up one after another.
use Rattle.std.proofs.Common.{◌≡◌, ℕ, zero, suc, ◌+◌, ◌-◌, ◌<◌, true, false, Option, None, Some, List, [], ◌∷◌, ◌++◌, map, ap, sym, ◌∙◌, subst, arith}
use Rattle.std.specs.Prelude.{◌||◌, is_none}
use Rattle.std.specs.List.{flat_map, range_with_len}
use Rattle.std.proofs.lemmas.Bool.{or_left, or_right}
use Rattle.std.proofs.lemmas.List.{map-append, append-nil, append_assoc, map-id}
use Rattle.std.proofs.lemmas.List.Folds.{list_any-append}
use Rattle.std.proofs.lemmas.List.Concat.{flat_map-append}
use Rattle.std.proofs.lemmas.List.FromFn.{map-range_with_len_more}
use Rattle.prs_core.specs.Nets.{rail_names, true_rail, false_rail}
use Rattle.prs_file.specs.Indexes.{place_in}
use Rattle.prs_file.specs.WiresFound.{AreFound, some_unknown}

pub range_more : (n : ℕ) → range_with_len 0 (n + 1) ≡ range_with_len 0 n ++ n ∷ []
range_more n = sym (map-id (range_with_len 0 (n + 1))) ∙ map-range_with_len_more (λ k. k) 0 n n (omega arith)
    ∙ ap (λ xs. xs ++ n ∷ []) (map-id (range_with_len 0 n))

pub rails_more : (channel : List ℕ) (bit : ℕ) → rail_names channel (bit + 1) ≡ rail_names channel bit ++ (true_rail channel bit ∷ false_rail channel bit ∷ [])
rails_more channel bit =
    let f : ℕ → List (List ℕ) = λ bit. true_rail channel bit ∷ false_rail channel bit ∷ [] in
    ap (flat_map f) (range_more bit) ∙ flat_map-append f (range_with_len 0 bit) (bit ∷ []) ∙ ap (λ xs. rail_names channel bit ++ xs) (append-nil (f bit))

pub found_more : (names wires : List (List ℕ)) (numbers : List ℕ) (w : List ℕ) (n : ℕ) → AreFound names wires numbers → place_in names w ≡ Some n →
    AreFound names (wires ++ w ∷ []) (numbers ++ n ∷ [])
found_more names wires numbers w n found is =
    map-append (place_in names) wires (w ∷ []) ∙ ap (λ xs. xs ++ place_in names w ∷ []) found ∙ ap (λ o. map (λ n. Some n) numbers ++ o ∷ []) is
    ∙ sym (map-append (λ n. Some n) numbers (n ∷ []))

-- two rails more
pub rails_found : (names : List (List ℕ)) (channel : List ℕ) (bit t f : ℕ) (numbers : List ℕ) → AreFound names (rail_names channel bit) numbers →
    place_in names (true_rail channel bit) ≡ Some t → place_in names (false_rail channel bit) ≡ Some f →
    AreFound names (rail_names channel (bit + 1)) ((numbers ++ t ∷ []) ++ f ∷ [])
rails_found names channel bit t f numbers found at af =
    let both = found_more names (rail_names channel bit ++ true_rail channel bit ∷ []) (numbers ++ t ∷ []) (false_rail channel bit) f
    (found_more names (rail_names channel bit) numbers (true_rail channel bit) t found at) af in
    subst (λ ws. AreFound names ws ((numbers ++ t ∷ []) ++ f ∷ [])) (append_assoc (rail_names channel bit) (true_rail channel bit ∷ []) (false_rail channel bit
    ∷ []) ∙ sym (rails_more channel bit)) both

unknown_right : (names xs ys : List (List ℕ)) → some_unknown names ys ≡ true → some_unknown names (xs ++ ys) ≡ true
unknown_right names xs ys is = list_any-append (λ w. is_none (place_in names w)) xs ys ∙ or_right (some_unknown names xs) (some_unknown names ys) is

unknown_left : (names xs ys : List (List ℕ)) → some_unknown names xs ≡ true → some_unknown names (xs ++ ys) ≡ true
unknown_left names xs ys is = list_any-append (λ w. is_none (place_in names w)) xs ys ∙ or_left (some_unknown names xs) (some_unknown names ys) is

-- a rail that is no node makes the rails of any greater width unknown
pub rail_unknown : (names : List (List ℕ)) (channel : List ℕ) (bit : ℕ) (o p : Option ℕ) → place_in names (true_rail channel bit) ≡ o →
    place_in names (false_rail channel bit) ≡ p → (is_none o || is_none p) ≡ true → some_unknown names (rail_names channel (bit + 1)) ≡ true
rail_unknown names channel bit o p at af none =
    subst (λ ws. some_unknown names ws ≡ true) (sym (rails_more channel bit))
    (unknown_right names (rail_names channel bit) (true_rail channel bit ∷ false_rail channel bit ∷ []) (two o p at af none))
  where
    two : (o p : Option ℕ) → place_in names (true_rail channel bit) ≡ o → place_in names (false_rail channel bit) ≡ p → (is_none o || is_none p) ≡ true →
        some_unknown names (true_rail channel bit ∷ false_rail channel bit ∷ []) ≡ true
    two None p at af none = or_left (is_none (place_in names (true_rail channel bit))) _ (ap is_none at)
    two (Some n) None at af none = or_right (is_none (place_in names (true_rail channel bit))) _
        (or_left (is_none (place_in names (false_rail channel bit))) false (ap is_none af))
    two (Some n) (Some m) at af none = absurd (cc none)

pub wider_unknown : (names : List (List ℕ)) (channel : List ℕ) (bits more : ℕ) → some_unknown names (rail_names channel bits) ≡ true →
    some_unknown names (rail_names channel (bits + more)) ≡ true
wider_unknown names channel bits zero is = subst (λ n. some_unknown names (rail_names channel n) ≡ true) (omega arith) is
wider_unknown names channel bits (suc more) is =
    let less = wider_unknown names channel bits more is in
    let e : (bits + more) + 1 ≡ bits + suc more = omega arith in
    subst (λ n. some_unknown names (rail_names channel n) ≡ true) e (subst (λ ws. some_unknown names ws ≡ true) (sym (rails_more channel (bits + more)))
    (unknown_left names (rail_names channel (bits + more)) (true_rail channel (bits + more) ∷ false_rail channel (bits + more) ∷ []) less))

pub within_unknown : (names : List (List ℕ)) (channel : List ℕ) (bit width : ℕ) → bit < width → some_unknown names (rail_names channel (bit + 1)) ≡ true →
    some_unknown names (rail_names channel width) ≡ true
within_unknown names channel bit width below is =
    subst (λ n. some_unknown names (rail_names channel n) ≡ true) (omega arith) (wider_unknown names channel (bit + 1) (width - (bit + 1)) is)
