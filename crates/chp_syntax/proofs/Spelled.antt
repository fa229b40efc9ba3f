-- What spells a token spells one alone.
use Rattle.std.proofs.Common.{◌≡◌, ℕ, Bool, true, false, List, [], ◌∷◌, refl, sym, ap, ◌∙◌, arith, Option, Some, inl, inr, ◌⊎◌}
use Rattle.std.specs.Prelude.{◌&&◌, ◌||◌, ◌==◌}
use Rattle.std.specs.List.{list_all, find}
use Rattle.std.specs.Str.{bytes_eq}
use Rattle.std.proofs.lemmas.Bool.Decides.{nat_tests}
use Rattle.chp_base.specs.Names.{word_part, digit, letter, begins_with_letter, is_keyword}
use Rattle.chp_syntax.specs.declared.token.TokenKind.{TokenKind}
use Rattle.chp_syntax.specs.declared.token.TokenKind.TheVariants.{Word, Ident, Number, Sign}
use Rattle.chp_syntax.specs.declared.token.Key.{Key}
use Rattle.chp_syntax.specs.declared.token.Key.TheVariants as key
use Rattle.chp_syntax.specs.declared.token.Mark.{Mark}
use Rattle.chp_syntax.specs.declared.token.Mark.TheVariants as mark
use Rattle.chp_syntax.specs.Spelling.{Spells, IsDecimal, IsHexadecimal, key_text, sign_text}

pub left_true : (a b : Bool) → (a && b) ≡ true → a ≡ true
left_true true b h = refl
left_true false b h = h

pub right_true : (a b : Bool) → (a && b) ≡ true → b ≡ true
right_true true b h = h
right_true false b h = absurd (cc h)

marks : List Mark
marks = mark.BarBar ∷ mark.Choice ∷ mark.BracketBar ∷ mark.Becomes ∷ mark.Arrow ∷ mark.NotEqual ∷ mark.AtMost ∷ mark.AtLeast ∷ mark.Semicolon ∷ mark.Comma
    ∷ mark.Colon ∷ mark.Bang ∷ mark.Question ∷ mark.OpenRound ∷ mark.CloseRound ∷ mark.OpenSquare ∷ mark.CloseSquare ∷ mark.OpenCurly ∷ mark.CloseCurly
    ∷ mark.Star ∷ mark.Hash ∷ mark.Tilde ∷ mark.Amp ∷ mark.Bar ∷ mark.Caret ∷ mark.Plus ∷ mark.Minus ∷ mark.Equal ∷ mark.Less ∷ mark.Greater ∷ []

mark_of : List ℕ → Option Mark
mark_of bs = find (λ m. bytes_eq (sign_text m) bs) marks

mark_of_text : (m : Mark) → mark_of (sign_text m) ≡ Some m
unfolding mark_of marks
mark_of_text mark.BarBar = refl
mark_of_text _ = refl

same_mark : (m l : Mark) → sign_text m ≡ sign_text l → m ≡ l
same_mark m l h = cc (mark_of_text m, mark_of_text l, ap mark_of h)

keys : List Key
keys = key.In ∷ key.Out ∷ key.Chan ∷ key.Var ∷ key.Begin ∷ key.End ∷ key.Skip ∷ key.Proc ∷ key.Call ∷ []

key_of : List ℕ → Option Key
key_of bs = find (λ k. bytes_eq (key_text k) bs) keys

key_of_text : (k : Key) → key_of (key_text k) ≡ Some k
unfolding key_of keys
key_of_text key.In = refl
key_of_text _ = refl

same_key : (k l : Key) → key_text k ≡ key_text l → k ≡ l
same_key k l h = cc (key_of_text k, key_of_text l, ap key_of h)

-- a keyword begins with a letter, and is no name
key_first : (k : Key) → begins_with_letter (key_text k) ≡ true
key_first key.In = refl
key_first _ = refl

key_no_name : (k : Key) → is_keyword (key_text k) ≡ true
key_no_name key.In = refl
key_no_name _ = refl

abbrev pub begins_with_part : List ℕ → Bool
begins_with_part [] = false
begins_with_part (b ∷ bs) = word_part b

pub sign_first : (m : Mark) → begins_with_part (sign_text m) ≡ false
sign_first mark.BarBar = refl
sign_first _ = refl

letter_part : (b : ℕ) → letter b ≡ true → word_part b ≡ true
letter_part b h = ap (λ x. (x || digit b) || b == 95) h

digit_part : (b : ℕ) → digit b ≡ true → word_part b ≡ true
digit_part b h = grind (arith, nat_tests)

digit_no_letter : (b : ℕ) → digit b ≡ true → letter b ≡ false
digit_no_letter b h = grind (arith, nat_tests)

number_first : (n : ℕ) (bs : List ℕ) → IsDecimal n bs ⊎ IsHexadecimal n bs → begins_with_part bs ≡ true
number_first n [] (inl d) = absurd (omega (arith, d.some))
number_first n (b ∷ bs) (inl d) = digit_part b (left_true (digit b) _ d.digits)
number_first n bs (inr x) = ap begins_with_part x.begins

number_no_letter : (n : ℕ) (bs : List ℕ) → IsDecimal n bs ⊎ IsHexadecimal n bs → begins_with_letter bs ≡ false
number_no_letter n [] (inl d) = refl
number_no_letter n (b ∷ bs) (inl d) = digit_no_letter b (left_true (digit b) _ d.digits)
number_no_letter n bs (inr x) = ap begins_with_letter x.begins

letter_first : (bs : List ℕ) → begins_with_letter bs ≡ true → begins_with_part bs ≡ true
letter_first [] h = absurd (cc h)
letter_first (b ∷ bs) h = letter_part b h

no_sign : (m : Mark) (bs : List ℕ) → begins_with_part bs ≡ true → bs ≡ sign_text m → ⊥
no_sign m bs h e = cc (h, ap begins_with_part e, sign_first m)

one_number : (n m : ℕ) (bs : List ℕ) → IsDecimal n bs ⊎ IsHexadecimal n bs → IsDecimal m bs ⊎ IsHexadecimal m bs → n ≡ m
one_number n m bs (inl d) (inl e) = sym d.value ∙ e.value
one_number n m bs (inl d) (inr x) = absurd (cc (d.digits, ap (list_all digit) x.begins))
one_number n m bs (inr x) (inl d) = absurd (cc (d.digits, ap (list_all digit) x.begins))
one_number n m bs (inr x) (inr y) = cc (x.value, y.value, x.begins, y.begins)

pub spells_once : (k l : TokenKind) (bs : List ℕ) → Spells k bs → Spells l bs → k ≡ l
spells_once (Word k) (Word l) bs g h = ap Word (same_key k l (sym g ∙ h))
spells_once (Word k) (Ident n) bs g h = absurd (cc (h.1.free, ap is_keyword g, key_no_name k))
spells_once (Word k) (Number n) bs g h = absurd (cc (ap begins_with_letter g, key_first k, number_no_letter n bs h))
spells_once (Word k) (Sign m) bs g h = absurd (no_sign m bs (letter_first bs (ap begins_with_letter g ∙ key_first k)) h)
spells_once (Ident n) (Word k) bs g h = absurd (cc (g.1.free, ap is_keyword h, key_no_name k))
spells_once (Ident n) (Ident m) bs g h = ap Ident (sym g.0 ∙ h.0)
spells_once (Ident n) (Number m) bs g h = absurd (cc (g.1.first, number_no_letter m bs h))
spells_once (Ident n) (Sign m) bs g h = absurd (no_sign m bs (letter_first bs g.1.first) h)
spells_once (Number n) (Word k) bs g h = absurd (cc (ap begins_with_letter h, key_first k, number_no_letter n bs g))
spells_once (Number n) (Ident m) bs g h = absurd (cc (h.1.first, number_no_letter n bs g))
spells_once (Number n) (Number m) bs g h = ap Number (one_number n m bs g h)
spells_once (Number n) (Sign m) bs g h = absurd (no_sign m bs (number_first n bs g) h)
spells_once (Sign m) (Word k) bs g h = absurd (no_sign m bs (letter_first bs (ap begins_with_letter h ∙ key_first k)) g)
spells_once (Sign m) (Ident n) bs g h = absurd (no_sign m bs (letter_first bs h.1.first) g)
spells_once (Sign m) (Number n) bs g h = absurd (no_sign m bs (number_first n bs h) g)
spells_once (Sign m) (Sign l) bs g h = ap Sign (same_mark m l (sym g ∙ h))
