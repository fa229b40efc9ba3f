-- The first token of a kind, and the first behind which too many brackets are open.
use Rattle.std.proofs.Common.{◌≡◌, ℕ, zero, suc, ◌+◌, ◌<◌, ◌≤◌, Bool, true, false, List, [], ◌∷◌, ◌++◌, length, get_or, take, drop, refl, sym, ap, ◌∙◌, arith, inl, inr, ◌⊎◌}
use Rattle.std.proofs.lemmas.List.{take-append-drop, drop_more, take_more, take-append-le, take_all, length_push}
use Rattle.chp_syntax.specs.declared.token.Token.{Token}
use Rattle.chp_syntax.specs.declared.token.TokenKind.{TokenKind}
use Rattle.chp_syntax.specs.Reading.{depth_after, depth_of, IsShallow}
use Rattle.chp_syntax.specs.Limits.{has_kind, IsFirstToken, GoesOver}

-- a list is what stands before a token, the token, and what stands behind it
split_at : (ts : List Token) (i : ℕ) (t : Token) → i < length ts → t ≡ get_or ts i t → ts ≡ take i ts ++ t ∷ drop (i + 1) ts
split_at ts i t lt is =
    sym (take-append-drop i ts) ∙ ap (λ us. take i ts ++ us) (drop_more ts i t lt ∙ ap (λ u. u ∷ drop (i + 1) ts) (sym is))

pub first_at : (test : TokenKind → Bool) (ts : List Token) (i : ℕ) (t : Token) → i < length ts → t ≡ get_or ts i t → has_kind test (take i ts) ≡ false →
    test t.kind ≡ true → IsFirstToken test ts t.at
first_at test ts i t lt is none passes = record {
  before = take i ts;
  kind = t.kind;
  behind = drop (i + 1) ts;
  is = split_at ts i t lt is;
  passes = passes;
  none = none;
}

depth-append : (n : ℕ) (ts us : List Token) → depth_of n (ts ++ us) ≡ depth_of (depth_of n ts) us
depth-append n [] us = refl
depth-append n (t ∷ ts) us = depth-append (depth_after n t.kind) ts us

shallow_push : (ts : List Token) (t : Token) → IsShallow ts → depth_of 0 (ts ++ t ∷ []) ≤ 256 → IsShallow (ts ++ t ∷ [])
shallow_push ts t shallow here n = cases (within n (length ts))
  where
    within : (a b : ℕ) → (a ≤ b) ⊎ (b + 1 ≤ a)
    within zero b = inl (omega arith)
    within (suc a) zero = inr (omega arith)
    within (suc a) (suc b) = elim (within a b) [ inl le ↦ inl (omega arith) | inr le ↦ inr (omega arith) ]

    cases : (n ≤ length ts) ⊎ (length ts + 1 ≤ n) → depth_of 0 (take n (ts ++ t ∷ [])) ≤ 256
    cases (inl le) = rw take-append-le (shallow n)
    cases (inr le) =
        let all : length (ts ++ t ∷ []) ≤ n = omega (arith, length_push ts t) in
        rw (take_all n (ts ++ t ∷ []) all) here

pub over_at : (ts : List Token) (i depth : ℕ) (t : Token) → i < length ts → t ≡ get_or ts i t → IsShallow (take i ts) → depth ≡ depth_of 0 (take i ts) →
    256 < depth_after depth t.kind → GoesOver ts t.at
over_at ts i depth t lt is shallow so over =
    let e : depth_after depth t.kind ≡ depth_of 0 (take i ts ++ t ∷ []) = ap (λ n. depth_after n t.kind) so ∙ sym (depth-append 0 (take i ts) (t ∷ [])) in
    record { before = take i ts; kind = t.kind; behind = drop (i + 1) ts; is = split_at ts i t lt is; shallow = shallow; over = omega (arith, e) }

pub shallow_more : (ts : List Token) (i depth : ℕ) (t : Token) → i < length ts → t ≡ get_or ts i t → IsShallow (take i ts) → depth ≡ depth_of 0 (take i ts) →
    depth_after depth t.kind ≤ 256 → (depth_after depth t.kind ≡ depth_of 0 (take (i + 1) ts)) × IsShallow (take (i + 1) ts)
shallow_more ts i depth t lt is shallow so few =
    let e : depth_after depth t.kind ≡ depth_of 0 (take i ts ++ t ∷ []) = ap (λ n. depth_after n t.kind) so ∙ sym (depth-append 0 (take i ts) (t ∷ [])) in
    let more : take (i + 1) ts ≡ take i ts ++ t ∷ [] = take_more ts i t lt ∙ ap (λ u. take i ts ++ u ∷ []) (sym is) in
    rw more (e, shallow_push (take i ts) t shallow (omega (arith, e)))
