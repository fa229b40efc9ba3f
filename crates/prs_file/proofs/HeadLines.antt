-- The first line of a file.
use Rattle.std.proofs.Common.{◌≡◌, ℕ, zero, suc, ◌+◌, ◌≤◌, ◌<◌, true, false, List, [], ◌∷◌, ◌++◌, ap, sym, ◌∙◌, arith}
use Rattle.std.specs.Prelude.{bytes_eq, codes}
use Rattle.std.specs.Cmp.Lexicographic.{bytes_decides}
use Rattle.std.proofs.lemmas.Fmt.{decimal_digit}
use Rattle.prs_file.specs.Spelling.{head_spelling}

pub head_is : (version : ℕ) → version < 10 → head_spelling version ≡ codes "prs " ++ (48 + version) ∷ 10 ∷ []
head_is version small = ap (λ d. codes "prs " ++ (d ++ 10 ∷ [])) (decimal_digit version small)

pub known_head : (line : List ℕ) (version : ℕ) → version < 10 → true ≡ bytes_eq line (codes "prs " ++ (48 + version) ∷ 10 ∷ []) → line ≡ head_spelling version
known_head line version small e = (bytes_decides line _).0 (sym e) ∙ sym (head_is version small)

pub no_head : (line : List ℕ) → false ≡ bytes_eq line (codes "prs 1\n") → false ≡ bytes_eq line (codes "prs 2\n") → (version : ℕ) → 1 ≤ version → version ≤ 2 →
    line ≡ head_spelling version → ⊥
no_head line one two zero some most e = absurd (omega arith)
no_head line one two (suc zero) some most e = absurd (cc (one, (bytes_decides line (codes "prs 1\n")).1 (e ∙ head_is 1 (omega arith))))
no_head line one two (suc (suc zero)) some most e = absurd (cc (two, (bytes_decides line (codes "prs 2\n")).1 (e ∙ head_is 2 (omega arith))))
no_head line one two (suc (suc (suc n))) some most e = absurd (omega arith)
