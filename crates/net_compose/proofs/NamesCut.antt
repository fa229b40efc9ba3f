-- Texts that stand one behind the other, one more of them, and one found among them.
use Rattle.std.proofs.Common.{◌≡◌, ◌∙◌, ℕ, zero, suc, ◌+◌, ◌-◌, ◌<◌, ◌≤◌, List, [], ◌∷◌, ◌++◌, length, get_or, drop, refl, ap, sym, subst, arith}
use Rattle.std.specs.Prelude.{take}
use Rattle.std.proofs.lemmas.List.{take-append-le, drop-append-le, length-append}
use Rattle.std.proofs.Math.Seq.{drop-append_seam, take-length}
use Rattle.net_compose.specs.Cuts.{cut, AreEnds, cut_begin}

-- each end is one of all bytes
end_within : (count from : ℕ) (ends : List ℕ) → AreEnds count from ends → from ≤ count
end_within count from [] h = omega (arith, h)
end_within count from (end ∷ ends) h = let rest = end_within count end ends h.1 in omega (arith, h.0, rest)

length_drop : (n : ℕ) (xs : List ℕ) → n ≤ length xs → length (drop n xs) ≡ length xs - n
length_drop zero xs l = omega arith
length_drop (suc n) [] l = absurd (omega (arith, l))
length_drop (suc n) (x ∷ xs) l = let e = length_drop n xs (omega (arith, l)) in omega (arith, e)

-- a text behind others
pub cut_more : (bytes name : List ℕ) (from : ℕ) (ends : List ℕ) → AreEnds (length bytes) from ends
    → cut (bytes ++ name) from (ends ++ length (bytes ++ name) ∷ []) ≡ cut bytes from ends ++ name ∷ []
cut_more bytes name from [] h =
    let count : length (bytes ++ name) ≡ length bytes + length name = length-append bytes name in
    let all : length (bytes ++ name) - from ≡ length name = omega (arith, count, h) in
    ap (λ n. take n (drop from (bytes ++ name)) ∷ []) all
    ∙ (ap (λ n. take (length name) (drop n (bytes ++ name)) ∷ []) h
    ∙ (ap (λ xs. take (length name) xs ∷ []) (drop-append_seam bytes name)
    ∙ ap (λ xs. xs ∷ []) (take-length name)))
cut_more bytes name from (end ∷ ends) h =
    let last = end_within (length bytes) end ends h.1 in
    let here : from ≤ length bytes = omega (arith, h.0, last) in
    let left = length_drop from bytes here in
    let short : end - from ≤ length (drop from bytes) = omega (arith, left, last) in
    ap (λ xs. take (end - from) xs ∷ cut (bytes ++ name) end (ends ++ length (bytes ++ name) ∷ [])) (drop-append-le from bytes name here)
    ∙ (ap (λ xs. xs ∷ cut (bytes ++ name) end (ends ++ length (bytes ++ name) ∷ [])) (take-append-le (end - from) (drop from bytes) name short)
    ∙ ap (λ xs. take (end - from) (drop from bytes) ∷ xs) (cut_more bytes name end ends h.1))

pub ends_more : (count more from : ℕ) (ends : List ℕ) → AreEnds count from ends → count ≤ more → AreEnds more from (ends ++ more ∷ [])
ends_more count more from [] h l = (omega (arith, h, l), refl)
ends_more count more from (end ∷ ends) h l = (h.0, ends_more count more end ends h.1 l)

pub cut_length : (bytes : List ℕ) (from : ℕ) (ends : List ℕ) → length (cut bytes from ends) ≡ length ends
cut_length bytes from [] = refl
cut_length bytes from (end ∷ ends) = ap suc (cut_length bytes end ends)

-- a number that is there is the same whatever stands for those that aren't
pub get_same : (xs : List ℕ) (i a b : ℕ) → i < length xs → get_or xs i a ≡ get_or xs i b
get_same [] i a b l = absurd (omega (arith, l))
get_same (x ∷ xs) zero a b l = refl
get_same (x ∷ xs) (suc i) a b l = get_same xs i a b (omega (arith, l))

pub cut_at : (bytes : List ℕ) (from : ℕ) (ends : List ℕ) (place d : ℕ) → place < length ends
    → get_or (cut bytes from ends) place [] ≡ take (get_or ends place d - cut_begin from ends place) (drop (cut_begin from ends place) bytes)
cut_at bytes from [] place d l = absurd (omega (arith, l))
cut_at bytes from (end ∷ ends) zero d l = refl
cut_at bytes from (end ∷ ends) (suc zero) d l = cut_at bytes end ends zero d (omega (arith, l))
cut_at bytes from (end ∷ ends) (suc (suc place)) d l =
    cut_at bytes end ends (suc place) d (omega (arith, l))
    ∙ ap (λ s. take (get_or ends (suc place) d - s) (drop s bytes)) (get_same ends place end from (omega (arith, l)))

-- no text ends before it begins, or behind all bytes
pub start_within : (count from : ℕ) (ends : List ℕ) (place d : ℕ) → AreEnds count from ends → place < length ends
    → (cut_begin from ends place ≤ get_or ends place d) × (get_or ends place d ≤ count)
start_within count from [] place d h l = absurd (omega (arith, l))
start_within count from (end ∷ ends) zero d h l = (h.0, end_within count end ends h.1)
start_within count from (end ∷ ends) (suc zero) d h l = start_within count end ends zero d h.1 (omega (arith, l))
start_within count from (end ∷ ends) (suc (suc place)) d h l =
    let rest = start_within count end ends (suc place) d h.1 (omega (arith, l)) in (
      subst (λ s. s ≤ get_or ends (suc place) d) (get_same ends place end from (omega (arith, l))) rest.0,
      rest.1,
    )

-- texts that are left as they were
pub ends_kept : (bytes now kept ends later : List ℕ) (count : ℕ) → AreEnds (length bytes) 0 ends → take (length bytes) now ≡ bytes → count ≡ length bytes
    → kept ≡ take count now → later ≡ ends → AreEnds (length kept) 0 later
ends_kept bytes now kept ends later count h front is cut_back same =
    let whole : kept ≡ bytes = cut_back ∙ (ap (λ n. take n now) is ∙ front) in
    subst (λ xs. AreEnds (length xs) 0 later) (sym whole) (subst (λ es. AreEnds (length bytes) 0 es) (sym same) h)
