-- A line without its comment, byte by byte.
use Rattle.std.proofs.Common.{◌≡◌, ℕ, ◌+◌, ◌-◌, ◌<◌, ◌≤◌, false, List, [], ◌∷◌, ◌++◌, length, get_or, take, drop, refl, sym, ap, ◌∙◌, arith}
use Rattle.std.specs.Prelude.{◌&&◌, ◌==◌}
use Rattle.std.proofs.lemmas.Bool.{eq-eqb}
use Rattle.std.proofs.lemmas.List.{drop_more, take_more, append-nil, append_assoc, take-append-drop, length-drop}
use Rattle.env_script.specs.Cutting.{uncommented}

-- from the place k on stand the bytes at k and behind it
two_at : (line : List ℕ) (k : ℕ) → k + 1 < length line → drop k line ≡ get_or line k 0 ∷ get_or line (k + 1) 0 ∷ drop (k + 2) line
two_at line k within =
    let here : k < length line = omega arith in
    let next : k + 1 + 1 ≡ k + 2 = omega arith in
    rw (drop_more line k 0 here, drop_more line (k + 1) 0 within, next) refl

comment_at : (line : List ℕ) (k : ℕ) → k + 1 < length line → get_or line k 0 ≡ 47 → get_or line (k + 1) 0 ≡ 47 → uncommented (drop k line) ≡ []
comment_at line k within one two =
    rw (two_at line k within, eq-eqb (get_or line k 0) 47 one, eq-eqb (get_or line (k + 1) 0) 47 two) refl

none_at : (line : List ℕ) (k : ℕ) → k + 1 < length line → (get_or line k 0 == 47 && get_or line (k + 1) 0 == 47) ≡ false →
    uncommented (drop k line) ≡ get_or line k 0 ∷ uncommented (drop (k + 1) line)
none_at line k within none =
    let next : k + 1 + 1 ≡ k + 2 = omega arith in
    rw (two_at line k within, none, drop_more line (k + 1) 0 within, next) refl

abbrev SoFar : List ℕ → ℕ → Type 0
SoFar line k = uncommented line ≡ take k line ++ uncommented (drop k line)

pub comment_here : (line : List ℕ) (at : ℕ) → 1 ≤ at → at < length line → get_or line (at - 1) 0 ≡ 47 → get_or line at 0 ≡ 47 → SoFar line (at - 1) →
    take (at - 1) line ≡ uncommented line
comment_here line at some within one two so_far =
    let same : at - 1 + 1 ≡ at = omega arith in
    let two_here : get_or line (at - 1 + 1) 0 ≡ 47 = ap (λ i. get_or line i 0) same ∙ two in
    sym (so_far ∙ ap (λ xs. take (at - 1) line ++ xs) (comment_at line (at - 1) (omega arith) one two_here) ∙ append-nil (take (at - 1) line))

more_at : (line : List ℕ) (k : ℕ) → k + 1 < length line → (get_or line k 0 == 47 && get_or line (k + 1) 0 == 47) ≡ false → SoFar line k → SoFar line (k + 1)
more_at line k within none so_far =
    let here : k < length line = omega arith in
    so_far ∙ ap (λ xs. take k line ++ xs) (none_at line k within none)
    ∙ sym (append_assoc (take k line) (get_or line k 0 ∷ []) (uncommented (drop (k + 1) line)))
    ∙ ap (λ xs. xs ++ uncommented (drop (k + 1) line)) (sym (take_more line k 0 here))

pub no_comment : (line : List ℕ) (at : ℕ) → 1 ≤ at → at < length line → (get_or line (at - 1) 0 == 47 && get_or line at 0 == 47) ≡ false → SoFar line (at - 1) →
    SoFar line (at + 1 - 1)
no_comment line at some within none so_far =
    let same : at - 1 + 1 ≡ at = omega arith in
    let next : at + 1 - 1 ≡ at - 1 + 1 = omega arith in
    let none_here : (get_or line (at - 1) 0 == 47 && get_or line (at - 1 + 1) 0 == 47) ≡ false =
    ap (λ i. get_or line (at - 1) 0 == 47 && get_or line i 0 == 47) same ∙ none in
    rw next (more_at line (at - 1) (omega arith) none_here so_far)

last_byte : (xs : List ℕ) → length xs ≤ 1 → uncommented xs ≡ xs
last_byte [] few = refl
last_byte (x ∷ []) few = refl
last_byte (x ∷ y ∷ xs) few = absurd (omega arith)

pub no_more : (line : List ℕ) (at : ℕ) → length line ≤ at → SoFar line (at - 1) → line ≡ uncommented line
no_more line at past so_far =
    sym (so_far ∙ ap (λ xs. take (at - 1) line ++ xs) (last_byte (drop (at - 1) line) (omega (arith, length-drop (at - 1) line)))
    ∙ take-append-drop (at - 1) line)
