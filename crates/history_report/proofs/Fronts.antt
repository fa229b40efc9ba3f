-- Lists that are alike up to a place, fronts of lists, and where two lists first differ.
use Rattle.std.proofs.Common.{◌≡◌, ◌≢◌, ◌⊎◌, ◌∙◌, inl, inr, ℕ, ◌+◌, ◌<◌, ◌≤◌, List, [], ◌∷◌, ◌++◌, length, get_or, take, drop, sym, ap, arith, add-one, append_assoc, length-append, length-take}
use Rattle.std.specs.Prelude.{slice_get, Some}
use Rattle.std.proofs.Math.Seq.{take-suc, take-length}
use Rattle.std.proofs.lemmas.Bool.{cases_lt}
use Rattle.std.proofs.lemmas.List.{get_or-take, get_or_append_left, take-append-drop, take-append-le}
use Rattle.std.proofs.lemmas.Option.{slice_get-get_or}
use Rattle.chp_meaning.specs.Prefixes.{IsPrefixOf}
use Rattle.history_report.specs.Comparing.{IsFirstDifference}

-- alike one place further
pub take_further : {X : Type 0} (xs ys : List X) (k : ℕ) (d : X) → take k xs ≡ take k ys → k < length xs → k < length ys → get_or xs k d ≡ get_or ys k d →
    take (k + 1) xs ≡ take (k + 1) ys
take_further xs ys k d alike a b same =
    rw add-one (take-suc xs k d a ∙ (ap (λ zs. zs ++ (get_or xs k d ∷ [])) alike ∙ (ap (λ x. take k ys ++ (x ∷ [])) same ∙ sym (take-suc ys k d b))))

-- ---- what is found

pub front_found : (xs ys : List ℕ) → take (length xs) xs ≡ take (length xs) ys → IsPrefixOf xs ys
front_found xs ys alike =
    (drop (length xs) ys, sym (take-append-drop (length xs) ys) ∙ ap (λ zs. zs ++ drop (length xs) ys) (sym alike ∙ take-length xs))

-- ---- of longer lists

pub front_longer : (xs ys zs : List ℕ) → IsPrefixOf xs ys → IsPrefixOf ys zs → IsPrefixOf xs zs
front_longer xs ys zs one two = (one.0 ++ two.0, two.1 ∙ (ap (λ l. l ++ two.0) one.1 ∙ append_assoc xs one.0 two.0))

kept_at : (xs rest : List ℕ) (k : ℕ) → k < length xs → slice_get (xs ++ rest) k ≡ slice_get xs k
kept_at xs rest k within =
    let longer : k < length (xs ++ rest) = omega (arith, length-append xs rest) in
    slice_get-get_or (xs ++ rest) k 0 longer ∙ (ap Some (get_or_append_left xs rest 0 k within) ∙ sym (slice_get-get_or xs k 0 within))

pub difference_longer : (xs ys rest : List ℕ) (k : ℕ) → length xs ≤ length ys → IsFirstDifference xs ys k → IsFirstDifference xs (ys ++ rest) k
difference_longer xs ys rest k long d =
    let inside = d.within in
    let there : k < length ys = omega arith in
    let below : k ≤ length ys = omega arith in
    record {
      alike = d.alike ∙ sym (take-append-le k ys rest below);
      within = d.within;
      differs = λ same. d.differs (same ∙ kept_at ys rest k there);
    }

-- ---- there is one

pub not_both : (xs ys : List ℕ) (k : ℕ) → IsPrefixOf xs ys → IsFirstDifference xs ys k → ⊥
not_both xs ys k front d = d.differs (sym (kept_at xs front.0 k d.within) ∙ ap (λ l. slice_get l k) (sym front.1))

not_before : (xs ys : List ℕ) (j k : ℕ) → j < k → IsFirstDifference xs ys j → IsFirstDifference xs ys k → ⊥
not_before xs ys j k less one two =
    let inside = one.within in
    let counted : length (take k xs) ≡ length (take k ys) = ap length two.alike in
    let there : j < length ys = omega (arith, length-take k xs, length-take k ys, two.within) in
    let same : get_or xs j 0 ≡ get_or ys j 0 = sym (get_or-take k xs j 0 less) ∙ (ap (λ l. get_or l j 0) two.alike ∙ get_or-take k ys j 0 less) in
    one.differs (slice_get-get_or xs j 0 inside ∙ (ap Some same ∙ sym (slice_get-get_or ys j 0 there)))

pub same_place : (xs ys : List ℕ) (j k : ℕ) → IsFirstDifference xs ys j → IsFirstDifference xs ys k → j ≡ k
same_place xs ys j k one two = by (cases_lt j k) (cases_lt k j)
  where
    by : (j < k) ⊎ (k ≤ j) → (k < j) ⊎ (j ≤ k) → j ≡ k
    by (inl less) other = absurd (not_before xs ys j k less one two)
    by (inr most) (inl less) = absurd (not_before xs ys k j less two one)
    by (inr most) (inr least) = omega arith
