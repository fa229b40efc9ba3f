-- The line that names a node, piece by piece.
use Rattle.std.proofs.Common.{◌≡◌, ℕ, true, List, ◌∷◌, ◌++◌, drop, refl, ap, sym, ◌∙◌}
use Rattle.std.specs.Prelude.{codes}
use Rattle.std.proofs.lemmas.List.{append_assoc, append_cancel_left}
use Rattle.wave_file.specs.Waves.{naming}
use Rattle.wave_file.specs.WaveLines.{is_free_of}
use Rattle.wave_file.proofs.Cutting.{cut_once}

abbrev pub behind_id : List ℕ → List ℕ → List ℕ
behind_id name rest = 32 ∷ (name ++ (codes " $end\n" ++ rest))

-- the text of the line and what is behind it, one piece in the other
pub named_front : (text id name rest : List ℕ) → text ≡ naming id name ++ rest → text ≡ codes "$var wire 1 " ++ (id ++ behind_id name rest)
named_front text id name rest whole = whole ∙ ap (λ t. codes "$var wire 1 " ++ t)
    (append_assoc id (32 ∷ (name ++ codes " $end\n")) rest ∙ ap (λ t. id ++ 32 ∷ t) (append_assoc name (codes " $end\n") rest))

pub named_id : (text a id name rest : List ℕ) → text ≡ codes "$var wire 1 " ++ a → text ≡ naming id name ++ rest → a ≡ id ++ behind_id name rest
named_id text a id name rest one whole = ap (drop 12) (sym one ∙ named_front text id name rest whole)

pub named_space : (text a b id name rest : List ℕ) → text ≡ codes "$var wire 1 " ++ a → a ≡ id ++ b → text ≡ naming id name ++ rest →
    b ≡ behind_id name rest
named_space text a b id name rest one two whole = append_cancel_left id b (behind_id name rest) (sym two ∙ named_id text a id name rest one whole)

pub named_cut : (text a b d id name rest : List ℕ) → text ≡ codes "$var wire 1 " ++ a → a ≡ id ++ b → b ≡ codes " " ++ d →
    text ≡ naming id name ++ rest → d ≡ name ++ 32 ∷ (codes "$end\n" ++ rest)
named_cut text a b d id name rest one two three whole = ap (drop 1) (sym three ∙ named_space text a b id name rest one two whole)

pub named_end : (text a b d id front e name rest : List ℕ) → is_free_of 32 name ≡ true → is_free_of 32 front ≡ true →
    text ≡ codes "$var wire 1 " ++ a → a ≡ id ++ b → b ≡ codes " " ++ d → d ≡ front ++ 32 ∷ e → text ≡ naming id name ++ rest →
    (front ≡ name) × (e ≡ codes "$end\n" ++ rest)
named_end text a b d id front e name rest free also one two three four whole =
    cut_once 32 front name e (codes "$end\n" ++ rest) also free (sym four ∙ named_cut text a b d id name rest one two three whole)

pub named_whole : (text a b d id front e rest : List ℕ) → text ≡ codes "$var wire 1 " ++ a → a ≡ id ++ b → b ≡ codes " " ++ d →
    d ≡ front ++ 32 ∷ e → e ≡ codes "$end\n" ++ rest → text ≡ naming id front ++ rest
named_whole text a b d id front e rest one two three four five =
    let inner : b ≡ behind_id front rest = three ∙ ap (λ t. 32 ∷ t) (four ∙ ap (λ t. front ++ 32 ∷ t) five) in
    one ∙ ap (λ t. codes "$var wire 1 " ++ t) (two ∙ ap (λ t. id ++ t) inner) ∙ sym (named_front (naming id front ++ rest) id front rest refl)

pub naming_once : (id a b rest more : List ℕ) → is_free_of 32 a ≡ true → is_free_of 32 b ≡ true → naming id a ++ rest ≡ naming id b ++ more →
    (a ≡ b) × (rest ≡ more)
naming_once id a b rest more one two e =
    let cut = cut_once 32 a b (codes "$end\n" ++ rest) (codes "$end\n" ++ more) one two
    (ap (drop 1) (append_cancel_left id (behind_id a rest) (behind_id b more)
    (ap (drop 12) (sym (named_front (naming id a ++ rest) id a rest refl) ∙ e ∙ named_front (naming id b ++ more) id b more refl)))) in
    (cut.0, ap (drop 5) cut.1)
