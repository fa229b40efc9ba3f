-- What the parts of the scanner find at the front of a text is what stands there.
use Rattle.std.proofs.Common.{◌≡◌, ℕ, zero, suc, ◌+◌, ◌-◌, ◌<◌, ◌≤◌, Bool, true, false, cond, List, [], ◌∷◌, ◌++◌, length, take, drop, refl, sym, ap, ◌∙◌, subst, arith, inl, inr, length-take, length-append}
use Rattle.std.specs.Prelude.{◌&&◌}
use Rattle.std.specs.List.{list_all, prefix_len}
use Rattle.std.proofs.lemmas.List.{take-append-drop, take_at, take_rest}
use Rattle.std.proofs.lemmas.List.Sums.{prefix_len-le-length}
use Rattle.chp_base.specs.Names.{word_part}
use Rattle.chp_syntax.specs.declared.token.TokenKind.{TokenKind}
use Rattle.chp_syntax.specs.declared.token.TokenKind.TheVariants.{Sign}
use Rattle.chp_syntax.specs.declared.token.Mark.{Mark}
use Rattle.chp_syntax.specs.Spelling.{Spells, sign_text}
use Rattle.chp_syntax.specs.Tokens.{IsGap, IsWordRun, IsPiece, IsLongest, IsToken, IsNoToken}
use Rattle.chp_syntax.specs.declared.scan.Front.{Front}
use Rattle.chp_syntax.specs.Front.{IsFront, HasSign, LongestSign}
use Rattle.chp_syntax.proofs.Spelled.{left_true, right_true, begins_with_part, sign_first}
use Rattle.chp_syntax.proofs.Cutting.{piece_size}

taken_part : (n : ℕ) (text : List ℕ) → 0 < n → begins_with_part (take n text) ≡ begins_with_part text
taken_part zero text some = absurd (omega arith)
taken_part (suc n) [] some = refl
taken_part (suc n) (b ∷ bs) some = refl

run_part : (bs : List ℕ) → IsWordRun bs → begins_with_part bs ≡ true
run_part [] run = absurd (omega (arith, run.some))
run_part (b ∷ bs) run = left_true (word_part b) _ run.parts

prefix_part : (bs : List ℕ) → 0 < prefix_len word_part bs → begins_with_part bs ≡ true
prefix_part [] some = absurd (omega arith)
prefix_part (b ∷ bs) some = here (word_part b) refl
  where
    here : (e : Bool) → word_part b ≡ e → word_part b ≡ true
    here true is = is
    here false is = absurd (omega (arith, some, ap (λ x. cond x (1 + prefix_len word_part bs) 0) is))

no_part : (bs : List ℕ) → prefix_len word_part bs ≤ 0 → begins_with_part bs ≡ false
no_part [] none = refl
no_part (b ∷ bs) none = here (word_part b) refl
  where
    here : (e : Bool) → word_part b ≡ e → word_part b ≡ false
    here true is = absurd (omega (arith, none, ap (λ x. cond x (1 + prefix_len word_part bs) 0) is))
    here false is = is

word_front : (bs : List ℕ) → list_all word_part (take (prefix_len word_part bs) bs) ≡ true
word_front [] = refl
word_front (b ∷ bs) = here (word_front bs) (word_part b) refl
  where
    here : list_all word_part (take (prefix_len word_part bs) bs) ≡ true → (e : Bool) → word_part b ≡ e →
        list_all word_part (take (cond e (1 + prefix_len word_part bs) 0) (b ∷ bs)) ≡ true
    here rest true is =
        let more : 1 + prefix_len word_part bs ≡ suc (prefix_len word_part bs) = omega arith in
        rw more (ap (λ x. x && list_all word_part (take (prefix_len word_part bs) bs)) is ∙ rest)
    here rest false is = refl

word_most : (bs : List ℕ) (m : ℕ) → m ≤ length bs → list_all word_part (take m bs) ≡ true → m ≤ prefix_len word_part bs
word_most bs zero le all = omega arith
word_most [] (suc m) le all = absurd (omega arith)
word_most (b ∷ bs) (suc m) le all =
    let head : word_part b ≡ true = left_true (word_part b) _ all in
    rw head (omega (arith, word_most bs m (omega arith) (right_true (word_part b) _ all)))

pub run_is : (n : ℕ) (text : List ℕ) → 0 < n → n ≡ prefix_len word_part text → IsWordRun (take n text)
run_is n text some is = record {
  some = omega (arith, length-take n text, prefix_len-le-length word_part text);
  parts = subst (λ k. list_all word_part (take k text) ≡ true) (sym is) (word_front text);
}

pub run_longest : (n : ℕ) (text : List ℕ) → 0 < n → n ≡ prefix_len word_part text → IsLongest n text
run_longest n text some is = record {
  within = omega (arith, prefix_len-le-length word_part text);
  piece = inl (run_is n text some is);
  longest = most;
}
  where
    most : (m : ℕ) → m ≤ length text → IsPiece (take m text) → m ≤ n
    most m le (inl run) = omega (arith, word_most text m le run.parts)
    most m le (inr s) =
        let piece : IsPiece (take m text) = inr s in
        absurd (cc (prefix_part text (omega arith), taken_part m text (piece_size m text piece), ap begins_with_part s.1, sign_first s.0))

pub run_token : (kind : TokenKind) (n : ℕ) (text : List ℕ) → 0 < n → n ≡ prefix_len word_part text → Spells kind (take n text) → IsToken kind n text
run_token kind n text some is spells = record { longest = run_longest n text some is; spells = spells }

pub run_bad : (n : ℕ) (text : List ℕ) → 0 < n → n ≡ prefix_len word_part text → ((kind : TokenKind) → Spells kind (take n text) → ⊥) → IsNoToken n text
run_bad n text some is none = inl (run_longest n text some is, none)

-- where no run is, a piece is a sign
only_sign : (m : ℕ) (text : List ℕ) → prefix_len word_part text ≤ 0 → m ≤ length text → IsPiece (take m text) →
    (l : Mark) × HasSign text l × (m ≡ length (sign_text l))
only_sign m text no_run le (inl run) =
    let piece : IsPiece (take m text) = inl run in
    absurd (cc (run_part (take m text) run, taken_part m text (piece_size m text piece), no_part text no_run))
only_sign m text no_run le (inr s) =
    (s.0, (drop m text, sym (take-append-drop m text) ∙ ap (λ t. t ++ drop m text) s.1), omega (arith, length-take m text, ap length s.1))

pub sign_token : (m : Mark) (n : ℕ) (text : List ℕ) → prefix_len word_part text ≤ 0 → LongestSign text m → n ≡ length (sign_text m) → IsToken (Sign m) n text
sign_token m n text no_run sign size = record { longest = record { within = within; piece = inr (m, spelled); longest = most }; spells = spelled }
  where
    within : n ≤ length text
    within = omega (arith, ap length sign.begins.1, length-append (sign_text m) sign.begins.0)

    spelled : take n text ≡ sign_text m
    spelled = ap (take n) sign.begins.1 ∙ take_at (sign_text m) sign.begins.0 n (sym size)

    most : (k : ℕ) → k ≤ length text → IsPiece (take k text) → k ≤ n
    most k le piece = let s = only_sign k text no_run le piece in omega (arith, sign.longest s.0 s.1, s.2)

pub nothing : (text : List ℕ) → 0 < length text → ((n : ℕ) → IsGap n text → ⊥) → prefix_len word_part text ≤ 0 → ((m : Mark) → HasSign text m → ⊥) →
    IsNoToken 1 text
nothing text some no_gap no_run no_sign = inr (refl, some, no_gap, none)
  where
    none : (m : ℕ) → m ≤ length text → IsPiece (take m text) → ⊥
    none m le piece = let s = only_sign m text no_run le piece in no_sign s.0 s.1

pub front_at : (text : List ℕ) (i : ℕ) (found front : Front) → IsFront (take (length text - i) (drop i text)) found → found ≡ front →
    IsFront (drop i text) front
front_at text i found front is e = subst (λ f. IsFront (drop i text) f) e (subst (λ t. IsFront t found) (take_rest text i) is)
