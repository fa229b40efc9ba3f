-- How the rest of a text is cut into tokens, one token or blank after the other from the front.
use Rattle.std.proofs.Common.{◌≡◌, ◌∙◌, ℕ, zero, suc, ◌+◌, ◌<◌, ◌≤◌, ◌&&◌, ◌||◌, ◌==◌, Bool, true, false, cond, List, [], ◌∷◌, ◌++◌, length, take, drop, refl, sym, ap, subst, arith, inl, inr, length-append, length-take, length-drop}
use Rattle.std.specs.List.{list_all, prefix_len}
use Rattle.std.proofs.Math.Seq.{take-append_seam, drop-append_seam}
use Rattle.chp_base.specs.Names.{word_part}
use Rattle.chp_base.specs.declared.span.Span.{Span}
use Rattle.chp_syntax.specs.declared.token.TokenKind.{TokenKind}
use Rattle.chp_syntax.specs.declared.token.TokenKind.TheVariants.{Sign}
use Rattle.chp_syntax.specs.declared.token.Token.{Token}
use Rattle.chp_syntax.specs.declared.token.Mark.{Mark}
use Rattle.chp_syntax.specs.declared.token.Mark.TheVariants as mark
use Rattle.chp_syntax.specs.Front.{LongestSign}
use Rattle.chp_syntax.specs.Reading.{IsShallow, depth_of, depth_after}
use Rattle.chp_syntax.specs.Spelling.{Spells, sign_text}
use Rattle.chp_syntax.specs.Tokens.{blank, begins_blank, span, IsGap, IsToken, Cuts, so_far, a_gap, a_token, Tokens}
use Rattle.chp_syntax.proofs.Cutting.{gap_within, token_within}
use Rattle.chp_syntax.proofs.Fronts.{run_token, sign_token}
use Rattle.chp_syntax.proofs.Signs.{long_longest, short_longest}
use Rattle.chp_syntax.proofs.Spelled.{begins_with_part}

-- ---- brackets

-- nowhere are more than 256 brackets open, where so many were before these tokens
abbrev pub StaysShallow : ℕ → List Token → Type 0
StaysShallow depth ts = (n : ℕ) → depth_of depth (take n ts) ≤ 256

pub shallow_none : (depth : ℕ) → depth ≤ 256 → StaysShallow depth []
shallow_none depth few zero = few
shallow_none depth few (suc n) = few

pub shallow_more : (depth : ℕ) (t : Token) (ts : List Token) → depth ≤ 256 → StaysShallow (depth_after depth t.kind) ts → StaysShallow depth (t ∷ ts)
shallow_more depth t ts few next zero = few
shallow_more depth t ts few next (suc n) = next n

-- ---- the rest of a text

-- the text from a place on is cut to its end into tokens of which P holds, and in which brackets stay few, where so many
-- are open before them
pub record Rest (P : List Token → Type 0) (depth at : ℕ) (text : List ℕ) : Type 0 where
  pub tokens : List Token
  pub to : ℕ
  pub cut : Cuts at tokens text to []
  pub shallow : StaysShallow depth tokens
  pub holds : P tokens

abbrev pub token_of : TokenKind → (at size : ℕ) → Token
token_of kind at size = record { kind = kind; at = span at (at + size) }

pub rest_none : {P : List Token → Type 0} {at : ℕ} → P [] → Rest P 0 at []
rest_none {P} {at} p = record { tokens = []; to = at; cut = so_far; shallow = shallow_none 0 (omega arith); holds = p }

pub rest_as : {P Q : List Token → Type 0} {depth at : ℕ} {text : List ℕ} → ((ts : List Token) → Q ts → P ts) → Rest Q depth at text → Rest P depth at text
rest_as is r = record { tokens = r.tokens; to = r.to; cut = r.cut; shallow = r.shallow; holds = is r.tokens r.holds }

pub rest_of_text : {P : List Token → Type 0} {depth at : ℕ} {text other : List ℕ} → text ≡ other → Rest P depth at other → Rest P depth at text
rest_of_text {P} {depth} {at} same r = subst (λ t. Rest P depth at t) (sym same) r

-- a blank
pub rest_blank : {P : List Token → Type 0} {depth at : ℕ} (b : ℕ) {text : List ℕ} → blank b ≡ true → Rest P depth (at + 1) text → Rest P depth at (b ∷ text)
rest_blank b is r = record { tokens = r.tokens; to = r.to; cut = a_gap 1 (inl (refl, is)) r.cut; shallow = r.shallow; holds = r.holds }

-- a token
rest_token : {P : List Token → Type 0} {depth at : ℕ} (kind : TokenKind) (bs text : List ℕ) → IsToken kind (length bs) (bs ++ text) → depth ≤ 256
    → Rest (λ ts. P (token_of kind at (length bs) ∷ ts)) (depth_after depth kind) (at + length bs) text → Rest P depth at (bs ++ text)
rest_token {P} {depth} {at} kind bs text is few r = record {
  tokens = token_of kind at (length bs) ∷ r.tokens;
  to = r.to;
  cut = a_token kind (length bs) is (subst (λ t. Cuts (at + length bs) r.tokens t r.to []) (sym (drop-append_seam bs text)) r.cut);
  shallow = shallow_more depth (token_of kind at (length bs)) r.tokens few r.shallow;
  holds = r.holds;
}

-- ---- words

no_part_behind : (text : List ℕ) → begins_with_part text ≡ false → prefix_len word_part text ≡ 0
no_part_behind [] ends = refl
no_part_behind (b ∷ bs) ends = rw ends refl

run_size : (bs text : List ℕ) → list_all word_part bs ≡ true → begins_with_part text ≡ false → prefix_len word_part (bs ++ text) ≡ length bs
run_size [] text parts ends = no_part_behind text ends
run_size (b ∷ bs) text parts ends = go (word_part b) refl parts (run_size bs text)
  where
    go : (p : Bool) → word_part b ≡ p → (p && list_all word_part bs) ≡ true
        → (list_all word_part bs ≡ true → begins_with_part text ≡ false → prefix_len word_part (bs ++ text) ≡ length bs)
        → cond p (1 + prefix_len word_part (bs ++ text)) 0 ≡ suc (length bs)
    go true is rest next = let size = next rest ends in omega (arith, size)
    go false is rest next = cc

pub rest_word : {P : List Token → Type 0} {depth at : ℕ} (kind : TokenKind) (bs text : List ℕ) → 0 < length bs → list_all word_part bs ≡ true →
    begins_with_part text ≡ false → Spells kind bs → depth ≤ 256
    → Rest (λ ts. P (token_of kind at (length bs) ∷ ts)) (depth_after depth kind) (at + length bs) text → Rest P depth at (bs ++ text)
rest_word kind bs text some parts ends spells few r =
    rest_token kind bs text
    (run_token kind (length bs) (bs ++ text) some (sym (run_size bs text parts ends)) (subst (Spells kind) (sym (take-append_seam bs text)) spells)) few r

-- ---- signs

-- the signs of two bytes
abbrev pub is_pair : (b c : ℕ) → Bool
is_pair b c = (b == 124 && c == 124) || ((b == 91 && (c == 93 || c == 124)) || ((b == 58 && c == 61) || ((b == 45 && c == 62)
    || ((b == 33 || (b == 60 || b == 62)) && c == 61))))

one_or_pair : List ℕ → Bool
one_or_pair (b ∷ c ∷ []) = is_pair b c
one_or_pair _ = true

pairs_told : (m : Mark) → one_or_pair (sign_text m) ≡ true
unfolding one_or_pair
pairs_told mark.BarBar = refl
pairs_told _ = refl

no_pair : (b c : ℕ) → is_pair b c ≡ false → (m : Mark) → b ∷ c ∷ [] ≡ sign_text m → ⊥
unfolding one_or_pair
no_pair b c none m same =
    let one : is_pair b c ≡ one_or_pair (sign_text m) = ap one_or_pair same in
    cc (one, pairs_told m, none)

no_part_first : (b : ℕ) (text : List ℕ) → word_part b ≡ false → prefix_len word_part (b ∷ text) ≤ 0
no_part_first b text lacks = rw lacks (omega arith)

pub rest_sign : {P : List Token → Type 0} {depth at : ℕ} (m : Mark) (b c : ℕ) {text : List ℕ} → b ∷ [] ≡ sign_text m → word_part b ≡ false →
    is_pair b c ≡ false → depth ≤ 256
    → Rest (λ ts. P (token_of (Sign m) at 1 ∷ ts)) (depth_after depth (Sign m)) (at + 1) (c ∷ text) → Rest P depth at (b ∷ c ∷ text)
rest_sign m b c {text} spelled lacks none few r =
    rest_token (Sign m) (b ∷ []) (c ∷ text)
    (sign_token m 1 (b ∷ c ∷ text) (no_part_first b (c ∷ text) lacks)
    (short_longest (b ∷ c ∷ text) m b c (omega arith) refl refl (no_pair b c none) spelled) (ap length spelled)) few r

pub rest_pair : {P : List Token → Type 0} {depth at : ℕ} (m : Mark) (b c : ℕ) {text : List ℕ} → b ∷ c ∷ [] ≡ sign_text m → word_part b ≡ false →
    depth ≤ 256
    → Rest (λ ts. P (token_of (Sign m) at 2 ∷ ts)) (depth_after depth (Sign m)) (at + 2) text → Rest P depth at (b ∷ c ∷ text)
rest_pair m b c {text} spelled lacks few r =
    rest_token (Sign m) (b ∷ c ∷ []) text
    (sign_token m 2 (b ∷ c ∷ text) (no_part_first b (c ∷ text) lacks)
    (long_longest (b ∷ c ∷ text) m b c (omega arith) refl refl spelled) (ap length spelled)) few r

-- ---- the whole text

cut_size : {at to : ℕ} {ts : List Token} {text rest : List ℕ} → Cuts at ts text to rest → at + length text ≡ to + length rest
cut_size so_far = refl
cut_size {text = t} (a_gap n is more) =
    let so = cut_size more in
    let within = gap_within n t is in
    omega (arith, so, within.0, within.1, length-drop n t)
cut_size {text = t} (a_token kind n is more) =
    let so = cut_size more in
    let within = token_within n t kind is in
    omega (arith, so, within.0, within.1, length-drop n t)

pub all_cut : {P : List Token → Type 0} {text : List ℕ} (r : Rest P 0 0 text) → Tokens text r.tokens
all_cut {P} {text} r =
    let size : 0 + length text ≡ r.to + 0 = cut_size r.cut in
    let end : r.to ≡ length text = omega (arith, size) in
    subst (λ to. Cuts 0 r.tokens text to []) end r.cut

pub all_shallow : {P : List Token → Type 0} {text : List ℕ} (r : Rest P 0 0 text) → IsShallow r.tokens
all_shallow r = r.shallow
