-- The text of a wave, piece by piece.
use Rattle.std.proofs.Common.{◌≡◌, ℕ, ◌+◌, ◌<◌, List, [], ◌∷◌, ◌++◌, length, get_or, drop, ap, sym, ◌∙◌}
use Rattle.std.proofs.lemmas.List.{append_assoc, append-nil, drop_more}
use Rattle.wave_file.specs.Waves.{var_spelling, naming_lines}

-- what is written, and what is left with one node less
pub var_more : (names : List (List ℕ)) (node : ℕ) (name now next : List ℕ) → node < length names → name ≡ get_or names node name →
    next ≡ now ++ var_spelling node name → next ++ naming_lines (node + 1) (drop (node + 1) names) ≡ now ++ naming_lines node (drop node names)
var_more names node name now next within is e =
    let here : drop node names ≡ name ∷ drop (node + 1) names = drop_more names node name within ∙ ap (λ x. x ∷ drop (node + 1) names) (sym is) in
    ap (λ t. t ++ naming_lines (node + 1) (drop (node + 1) names)) e
    ∙ append_assoc now (var_spelling node name) (naming_lines (node + 1) (drop (node + 1) names)) ∙ ap (λ xs. now ++ naming_lines node xs) (sym here)

pub five_pieces : (a b c d e t0 t1 t2 t3 t4 t5 : List ℕ) → t0 ≡ [] → t1 ≡ t0 ++ a → t2 ≡ t1 ++ b → t3 ≡ t2 ++ c → t4 ≡ t3 ++ d → t5 ≡ t4 ++ e →
    t5 ≡ a ++ (b ++ (c ++ (d ++ (e ++ []))))
five_pieces a b c d e t0 t1 t2 t3 t4 t5 e0 e1 e2 e3 e4 e5 =
    let all : t5 ≡ (((a ++ b) ++ c) ++ d) ++ e =
    e5 ∙ ap (λ t. t ++ e) (e4 ∙ ap (λ t. t ++ d) (e3 ∙ ap (λ t. t ++ c) (e2 ∙ ap (λ t. t ++ b) (e1 ∙ ap (λ t. t ++ a) e0)))) in
    all ∙ append_assoc ((a ++ b) ++ c) d e ∙ append_assoc (a ++ b) c (d ++ e) ∙ append_assoc a b (c ++ (d ++ e))
    ∙ ap (λ t. a ++ (b ++ (c ++ (d ++ t)))) (sym (append-nil e))
