-- Words one by one.
use Rattle.std.proofs.Common.{◌≡◌, ℕ, zero, suc, ◌+◌, ◌<◌, ◌≤◌, List, [], ◌∷◌, ◌++◌, length, get_or, map, take, refl, sym, ap, ◌∙◌, subst, arith}
use Rattle.std.specs.Borrow.{Bor}
use Rattle.std.specs.List.{AllZip}
use Rattle.std.proofs.lemmas.List.{take_more}
use Rattle.env_script.specs.Numbers.{IsNumber}

abbrev pub Words : Type 0
Words = List (Bor (List ℕ))

abbrev pub texts : Words → List (List ℕ)
texts words = map (λ (word : Bor (List ℕ)). word.now) words

pub one_word : (words : Words) (d : Bor (List ℕ)) → 1 ≤ length words → length words < 2 → texts words ≡ (get_or words 0 d).now ∷ []
one_word [] d some few = absurd (omega arith)
one_word (w ∷ []) d some few = refl
one_word (w ∷ v ∷ words) d some few = absurd (omega arith)

zip_push : (ws : List (List ℕ)) (ns : List ℕ) (w : List ℕ) (n : ℕ) → AllZip IsNumber ws ns → IsNumber w n → AllZip IsNumber (ws ++ w ∷ []) (ns ++ n ∷ [])
zip_push [] [] w n all is = (is, tt)
zip_push [] (m ∷ ns) w n all is = absurd all
zip_push (v ∷ ws) [] w n all is = absurd all
zip_push (v ∷ ws) (m ∷ ns) w n all is = (all.0, zip_push ws ns w n all.1 is)

texts_append : (vs ws : Words) → texts (vs ++ ws) ≡ texts vs ++ texts ws
texts_append [] ws = refl
texts_append (v ∷ vs) ws = ap (λ xs. v.now ∷ xs) (texts_append vs ws)

pub numbers_more : (words : Words) (i : ℕ) (d : Bor (List ℕ)) (ns : List ℕ) (n : ℕ) → i < length words → AllZip IsNumber (texts (take i words)) ns →
    IsNumber (get_or words i d).now n → AllZip IsNumber (texts (take (i + 1) words)) (ns ++ n ∷ [])
numbers_more words i d ns n within all is =
    let more : texts (take (i + 1) words) ≡ texts (take i words) ++ (get_or words i d).now ∷ [] =
    ap texts (take_more words i d within) ∙ texts_append (take i words) (get_or words i d ∷ []) in
    subst (λ (ws : List (List ℕ)). AllZip IsNumber ws (ns ++ n ∷ [])) (sym more) (zip_push (texts (take i words)) ns (get_or words i d).now n all is)

pub no_numbers : (words : Words) (i : ℕ) (d : Bor (List ℕ)) → i < length words → ((n : ℕ) → IsNumber (get_or words i d).now n → ⊥) → (ns : List ℕ) →
    AllZip IsNumber (texts words) ns → ⊥
no_numbers [] i d within none ns all = omega arith
no_numbers (w ∷ words) i d within none [] all = all
no_numbers (w ∷ words) zero d within none (n ∷ ns) all = none n all.0
no_numbers (w ∷ words) (suc i) d within none (n ∷ ns) all = no_numbers words i d (omega arith) none ns all.1
