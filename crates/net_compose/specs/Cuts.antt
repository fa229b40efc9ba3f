-- Consecutive texts, given by where each of them ends.
use Rattle.std.specs.Prelude.{◌≡◌, ℕ, zero, suc, ◌-◌, ◌≤◌, List, [], ◌∷◌, take, drop, slice_index_or}

abbrev pub cut : List ℕ → (from : ℕ) → (ends : List ℕ) → List (List ℕ)
cut bytes from [] = []
cut bytes from (end ∷ ends) = take (end - from) (drop from bytes) ∷ cut bytes end ends

-- no end is before the previous one, and the last one is the end of all bytes
abbrev pub AreEnds : (count from : ℕ) → List ℕ → Type 0
AreEnds count from [] = from ≡ count
AreEnds count from (end ∷ ends) = (from ≤ end) × AreEnds count end ends

-- where the text at an index begins
abbrev pub cut_begin : (from : ℕ) → List ℕ → ℕ → ℕ
cut_begin from ends zero = from
cut_begin from ends (suc place) = slice_index_or ends place from
