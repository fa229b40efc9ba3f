-- The name at the end of a rule's line.
use Rattle.std.proofs.Common.{◌≡◌, ℕ, ◌+◌, ◌-◌, Bool, true, false, List, [], ◌++◌, length, take, drop, refl, ap, sym, ◌∙◌, arith, length-append}
use Rattle.std.specs.Prelude.{bytes_eq, codes, if◌then◌else◌}
use Rattle.std.specs.Cmp.Lexicographic.{bytes_decides}
use Rattle.std.proofs.lemmas.List.{take_at, append-nil}
use Rattle.prs_file.specs.Spelling.{end_spelling}

abbrev direction : Bool → List ℕ
direction up = if up then codes "+\n" else codes "-\n"

direction_length : (up : Bool) → length (direction up) ≡ 2
direction_length true = refl
direction_length false = refl

end_length : (name : List ℕ) (up : Bool) → length (end_spelling name up) ≡ length name + 6
end_length name up = omega (arith, length-append name (direction up ++ []), ap length (append-nil (direction up)), direction_length up)

pub end_word : (text name : List ℕ) (up : Bool) → text ≡ end_spelling name up → take (length text - 2 - 4) (drop 4 text) ≡ name
end_word text name up e =
    let count : length text - 2 - 4 ≡ length name = omega (arith, ap length e, end_length name up) in
    ap (λ n. take n (drop 4 text)) count ∙ ap (λ l. take (length name) (drop 4 l)) e ∙ take_at name (direction up ++ []) (length name) refl

pub no_end : (text word : List ℕ) → word ≡ take (length text - 2 - 4) (drop 4 text) → bytes_eq text (end_spelling word true) ≡ false →
    bytes_eq text (end_spelling word false) ≡ false → (name : List ℕ) (up : Bool) → text ≡ end_spelling name up → ⊥
no_end text word is rises falls name true e =
    let said : text ≡ end_spelling word true = e ∙ ap (λ n. end_spelling n true) (sym (end_word text name true e) ∙ sym is) in
    absurd (cc (rises, (bytes_decides text (end_spelling word true)).1 said))
no_end text word is rises falls name false e =
    let said : text ≡ end_spelling word false = e ∙ ap (λ n. end_spelling n false) (sym (end_word text name false e) ∙ sym is) in
    absurd (cc (falls, (bytes_decides text (end_spelling word false)).1 said))
