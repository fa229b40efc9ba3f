-- A text is cut in one way, as far as it goes.
use Rattle.std.proofs.Common.{◌≡◌, ℕ, zero, suc, ◌+◌, ◌<◌, ◌≤◌, Bool, true, false, List, [], ◌∷◌, ◌++◌, length, take, drop, refl, sym, ap, ◌∙◌, subst, arith, inl, inr, length-take}
use Rattle.std.specs.Prelude.{◌||◌, ◌==◌, not}
use Rattle.std.proofs.lemmas.List.{drop-drop, drop_all, append-nil}
use Rattle.std.proofs.lemmas.List.Sums.{prefix_len-le-length}
use Rattle.std.proofs.lemmas.Bool.Decides.{nat_tests}
use Rattle.chp_base.specs.Names.{word_part}
use Rattle.chp_base.specs.declared.span.Span.{Span}
use Rattle.chp_syntax.specs.declared.token.TokenKind.{TokenKind}
use Rattle.chp_syntax.specs.declared.token.Token.{Token}
use Rattle.chp_syntax.specs.declared.token.Mark.{Mark}
use Rattle.chp_syntax.specs.declared.token.Mark.TheVariants as mark
use Rattle.chp_syntax.specs.Spelling.{Spells, sign_text}
use Rattle.chp_syntax.specs.Tokens.{blank, begins_blank, IsGap, IsPiece, IsLongest, IsToken, span, Cuts, so_far, a_gap, a_token, Tokens, IsNoToken, BadToken, InOrder}
use Rattle.chp_syntax.proofs.Spelled.{left_true, spells_once}

abbrev nil : List ℕ
nil = []

-- bytes with which a gap may begin
abbrev pub gap_byte : ℕ → Bool
gap_byte b = blank b || b == 47

abbrev pub first : List ℕ → ℕ
first [] = 0
first (b ∷ bs) = b

pub gap_first : (n : ℕ) (text : List ℕ) → IsGap n text → gap_byte (first text) ≡ true
gap_first n [] (inl g) = absurd (cc (g.1))
gap_first n (b ∷ bs) (inl g) = ap (λ x. x || b == 47) g.1
gap_first n text (inr c) = ap (λ t. gap_byte (first t)) c.begins

pub word_no_gap : (b : ℕ) → word_part b ≡ true → gap_byte b ≡ false
word_no_gap b h = grind (arith, nat_tests)

sign_no_gap : (m : Mark) → gap_byte (first (sign_text m)) ≡ false
sign_no_gap mark.BarBar = refl
sign_no_gap _ = refl

sign_some : (m : Mark) → 0 < length (sign_text m)
sign_some mark.BarBar = omega arith
sign_some _ = omega arith

pub piece_some : (bs : List ℕ) → IsPiece bs → 0 < length bs
piece_some bs (inl run) = run.some
piece_some bs (inr s) = omega (arith, sign_some s.0, ap length s.1)

pub piece_size : (n : ℕ) (text : List ℕ) → IsPiece (take n text) → 0 < n
piece_size n text piece = omega (arith, piece_some (take n text) piece, length-take n text)

piece_first : (bs : List ℕ) → IsPiece bs → gap_byte (first bs) ≡ false
piece_first [] piece = absurd (omega (arith, piece_some [] piece))
piece_first (b ∷ bs) (inl run) = word_no_gap b (left_true (word_part b) _ run.parts)
piece_first (b ∷ bs) (inr s) = ap (λ t. gap_byte (first t)) s.1 ∙ sign_no_gap s.0

first_taken : (n : ℕ) (text : List ℕ) → 0 < n → first (take n text) ≡ first text
first_taken zero text some = absurd (omega arith)
first_taken (suc n) [] some = refl
first_taken (suc n) (b ∷ bs) some = refl

-- where a gap is, no piece is
pub gap_no_piece : (n m : ℕ) (text : List ℕ) → IsGap n text → IsPiece (take m text) → ⊥
gap_no_piece n m text gap piece =
    let e : first (take m text) ≡ first text = first_taken m text (piece_size m text piece) in
    cc (gap_first n text gap, piece_first (take m text) piece, ap gap_byte e)

pub gap_once : (n m : ℕ) (text : List ℕ) → IsGap n text → IsGap m text → n ≡ m
gap_once n m text (inl g) (inl h) = g.0 ∙ sym h.0
gap_once n m text (inl g) (inr c) = absurd (cc (g.1, ap begins_blank c.begins))
gap_once n m text (inr c) (inl g) = absurd (cc (g.1, ap begins_blank c.begins))
gap_once n m text (inr c) (inr d) = cc (c.ends, d.ends, c.begins, d.begins)

longest_once : (n m : ℕ) (text : List ℕ) → IsLongest n text → IsLongest m text → n ≡ m
longest_once n m text a b = omega (arith, a.longest m b.within b.piece, b.longest n a.within a.piece)

-- no gap and no token is at the front
pub record Stuck (text : List ℕ) : Type 0 where
  pub no_gap : (n : ℕ) → IsGap n text → ⊥
  pub no_token : (kind : TokenKind) (n : ℕ) → IsToken kind n text → ⊥

pub stuck_end : Stuck []
stuck_end = record { no_gap = no_gap; no_token = λ kind n is. absurd (omega (arith, piece_some (take n nil) is.longest.piece, length-take n nil)) }
  where
    no_gap : (n : ℕ) → IsGap n [] → ⊥
    no_gap n (inl g) = cc (g.1)
    no_gap n (inr c) = cc (c.begins)

pub stuck_bad : (n : ℕ) (text : List ℕ) → IsNoToken n text → Stuck text
stuck_bad n text (inl h) = record {
  no_gap = λ m g. gap_no_piece m n text g h.0.piece;
  no_token = λ kind m is. h.1 kind (subst (λ k. Spells kind (take k text)) (longest_once m n text is.longest h.0) is.spells);
}
stuck_bad n text (inr h) = record {
  no_gap = h.2;
  no_token = λ kind m is. h.3 m is.longest.within is.longest.piece;
}

pub bad_once : (n m : ℕ) (text : List ℕ) → IsNoToken n text → IsNoToken m text → n ≡ m
bad_once n m text (inl g) (inl h) = longest_once n m text g.0 h.0
bad_once n m text (inl g) (inr h) = absurd (h.3 n g.0.within g.0.piece)
bad_once n m text (inr g) (inl h) = absurd (g.3 m h.0.within h.0.piece)
bad_once n m text (inr g) (inr h) = g.0 ∙ sym h.0

abbrev token_at : TokenKind → ℕ → ℕ → Token
token_at kind from to = record { kind = kind; at = span from to }

pub record SameCut (ts us : List Token) (to end : ℕ) (rest left : List ℕ) : Type 0 where
  pub tokens : ts ≡ us
  pub place : to ≡ end
  pub behind : rest ≡ left

same_token : (at : ℕ) (text : List ℕ) (kind other : TokenKind) (n m : ℕ) → IsToken kind n text → IsToken other m text → (n ≡ m) × (kind ≡ other)
same_token at text kind other n m a b =
    let e : n ≡ m = longest_once n m text a.longest b.longest in
    (e, spells_once kind other (take n text) a.spells (subst (λ k. Spells other (take k text)) (sym e) b.spells))

-- two cuts that can't go on are one
pub meet : {at to end : ℕ} {ts us : List Token} {text rest left : List ℕ} → Cuts at ts text to rest → Stuck rest → Cuts at us text end left → Stuck left →
    SameCut ts us to end rest left
meet so_far s so_far t = record { tokens = refl; place = refl; behind = refl }
meet so_far s (a_gap n g k) t = absurd (s.no_gap n g)
meet so_far s (a_token kind n is k) t = absurd (s.no_token kind n is)
meet (a_gap n g h) s so_far t = absurd (t.no_gap n g)
meet {at = at} {end = end} {us = us} {text = text} {left = left} (a_gap n g h) s (a_gap m f k) t =
    let e : m ≡ n = gap_once m n text f g in
    meet h s (subst (λ x. Cuts (at + x) us (drop x text) end left) e k) t
meet {text = text} (a_gap n g h) s (a_token kind m is k) t = absurd (gap_no_piece n m text g is.longest.piece)
meet (a_token kind n is h) s so_far t = absurd (t.no_token kind n is)
meet {text = text} (a_token kind n is h) s (a_gap m g k) t = absurd (gap_no_piece m n text g is.longest.piece)
meet {at = at} {end = end} {text = text} {left = left} (a_token kind n is h) s (a_token {ts = vs} other m was k) t =
    let e = same_token at text other kind m n was is in
    let r = meet h s (subst (λ x. Cuts (at + x) vs (drop x text) end left) e.0 k) t in
    record { tokens = cc (e.0, e.1, r.tokens); place = r.place; behind = r.behind }

pub one_cut : (text : List ℕ) (ts us : List Token) → Tokens text ts → Tokens text us → ts ≡ us
one_cut text ts us h k = (meet h stuck_end k stuck_end).tokens

pub bad_no_cut : (text : List ℕ) (s : Span) → BadToken text s → (ts : List Token) → Tokens text ts → ⊥
bad_no_cut text s bad ts h =
    let e = (meet bad.cut (stuck_bad bad.size bad.rest bad.is) h stuck_end).behind in
    not_end bad.rest bad.size bad.is e
  where
    not_end : (rest : List ℕ) (n : ℕ) → IsNoToken n rest → rest ≡ [] → ⊥
    not_end rest n (inl h) e = absurd (omega (arith, piece_some (take n rest) h.0.piece, length-take n rest, ap length e))
    not_end rest n (inr h) e = absurd (omega (arith, h.1, ap length e))

pub one_bad : (text : List ℕ) (s t : Span) → BadToken text s → BadToken text t → s ≡ t
one_bad text s t a b =
    let m = meet a.cut (stuck_bad a.size a.rest a.is) b.cut (stuck_bad b.size b.rest b.is) in
    let e : a.size ≡ b.size = bad_once a.size b.size b.rest (subst (λ r. IsNoToken a.size r) m.behind a.is) b.is in
    same_span s.from s.to t.from t.to m.place (omega (arith, m.place, e, a.ends, b.ends))
  where
    same_span : (from to start end : ℕ) → from ≡ start → to ≡ end → span from to ≡ span start end
    same_span from to start end f g = cc

-- a cut goes on with a cut of what is left
pub cut_more : {at mid to : ℕ} {ts us : List Token} {text left rest : List ℕ} → Cuts at ts text mid left → Cuts mid us left to rest →
    Cuts at (ts ++ us) text to rest
cut_more so_far k = k
cut_more (a_gap n g h) k = a_gap n g (cut_more h k)
cut_more (a_token kind n is h) k = a_token kind n is (cut_more h k)

-- what is cut off at the front of the rest of a text
pub cut_gap : (text : List ℕ) (ts : List Token) (i n : ℕ) → Cuts 0 ts text i (drop i text) → IsGap n (drop i text) → Cuts 0 ts text (i + n) (drop (i + n) text)
cut_gap text ts i n h g =
    let rest : drop n (drop i text) ≡ drop (i + n) text = drop-drop n i text in
    subst (λ us. Cuts 0 us text (i + n) (drop (i + n) text)) (append-nil ts)
    (cut_more h (a_gap n g (subst (λ r. Cuts (i + n) [] (drop n (drop i text)) (i + n) r) rest so_far)))

pub cut_token : (text : List ℕ) (ts : List Token) (i n : ℕ) (kind : TokenKind) → Cuts 0 ts text i (drop i text) → IsToken kind n (drop i text) →
    Cuts 0 (ts ++ token_at kind i (i + n) ∷ []) text (i + n) (drop (i + n) text)
cut_token text ts i n kind h is =
    let rest : drop n (drop i text) ≡ drop (i + n) text = drop-drop n i text in
    cut_more h (a_token kind n is (subst (λ r. Cuts (i + n) [] (drop n (drop i text)) (i + n) r) rest so_far))

pub gap_within : (n : ℕ) (text : List ℕ) → IsGap n text → (0 < n) × (n ≤ length text)
gap_within n [] (inl g) = absurd (cc (g.1))
gap_within n (b ∷ bs) (inl g) = (omega (arith, g.0), omega (arith, g.0))
gap_within n text (inr c) = (omega (arith, c.ends), omega (arith, c.ends, ap length c.begins, prefix_len-le-length (λ b. not (b == 10)) c.behind))

pub token_within : (n : ℕ) (text : List ℕ) (kind : TokenKind) → IsToken kind n text → (0 < n) × (n ≤ length text)
token_within n text kind is = (piece_size n text is.longest.piece, is.longest.within)

pub cut_end : (text : List ℕ) (ts : List Token) (i : ℕ) → i ≤ length text → length text ≤ i → Cuts 0 ts text i (drop i text) → Tokens text ts
cut_end text ts i le ge h =
    let e : i ≡ length text = omega arith in
    subst (λ k. Cuts 0 ts text k []) e (subst (λ r. Cuts 0 ts text i r) (drop_all i text ge) h)

pub cut_bad : (text : List ℕ) (ts : List Token) (i n : ℕ) → Cuts 0 ts text i (drop i text) → IsNoToken n (drop i text) → BadToken text (span i (i + n))
cut_bad text ts i n h bad = record { before = ts; rest = drop i text; cut = h; size = n; ends = refl; is = bad }

-- the places of the tokens
earlier : (from at to : ℕ) (ts : List Token) → from ≤ at → InOrder at ts to → InOrder from ts to
earlier from at to [] le h = omega arith
earlier from at to (t ∷ ts) le h = (omega (arith, h.0), h.1, h.2)

pub in_order : {at to : ℕ} {ts : List Token} {text rest : List ℕ} → Cuts at ts text to rest → InOrder at ts to
in_order so_far = omega arith
in_order {at = at} {to = to} {ts = ts} (a_gap n g h) = earlier at (at + n) to ts (omega arith) (in_order h)
in_order {at = at} {text = text} (a_token kind n is h) = (omega arith, omega (arith, piece_size n text is.longest.piece), in_order h)
