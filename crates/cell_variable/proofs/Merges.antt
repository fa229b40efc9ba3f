-- The guards of a merge are over its inputs alone.
use Rattle.std.proofs.Common.{◌≡◌, ℕ, ◌<◌, ◌+◌, List, [], ◌∷◌, ◌++◌, All, map, length, take, slice_index_or, ap, sym, ◌∙◌}
use Rattle.std.proofs.lemmas.List.{map-append, take_more}
use Rattle.std.proofs.lemmas.List.Elements.{All-nil, All-cons, All-head, All-tail}
use Rattle.prs_core.specs.declared.rule.Literal.{Literal}
use Rattle.prs_core.specs.Nets.{IsBelow, is_high, is_low}
use Rattle.prs_core.specs.Pairs.{lows}

term_below : (count n : ℕ) → n < count → All (λ (l : Literal). l.node < count) (is_high n ∷ [])
term_below count n h = All-cons (λ (l : Literal). l.node < count) (is_high n) [] h (All-nil (λ (l : Literal). l.node < count))

pub terms_below : (count : ℕ) (ns : List ℕ) → All (λ n. n < count) ns → IsBelow count (map (λ n. is_high n ∷ []) ns)
terms_below count [] h = All-nil (λ t. All (λ (l : Literal). l.node < count) t)
terms_below count (n ∷ ns) h =
    All-cons (λ t. All (λ (l : Literal). l.node < count) t) (is_high n ∷ []) (map (λ n. is_high n ∷ []) ns)
    (term_below count n (All-head (λ n. n < count) n ns h)) (terms_below count ns (All-tail (λ n. n < count) n ns h))

literals_below : (count : ℕ) (ns : List ℕ) → All (λ n. n < count) ns → All (λ (l : Literal). l.node < count) (lows ns)
literals_below count [] h = All-nil (λ (l : Literal). l.node < count)
literals_below count (n ∷ ns) h =
    All-cons (λ (l : Literal). l.node < count) (is_low n) (lows ns) (All-head (λ n. n < count) n ns h)
    (literals_below count ns (All-tail (λ n. n < count) n ns h))

pub lows_below : (count : ℕ) (ns : List ℕ) → All (λ n. n < count) ns → IsBelow count (lows ns ∷ [])
lows_below count ns h = All-cons (λ t. All (λ (l : Literal). l.node < count) t) (lows ns) [] (literals_below count ns h)
    (All-nil (λ t. All (λ (l : Literal). l.node < count) t))

-- one low node more
pub lows_next : (ns : List ℕ) (i : ℕ) (items : List Literal) → i < length ns → items ≡ lows (take i ns) →
    items ++ is_low (slice_index_or ns i 0) ∷ [] ≡ lows (take (i + 1) ns)
lows_next ns i items lt is =
    ap (λ (xs : List Literal). xs ++ is_low (slice_index_or ns i 0) ∷ []) is ∙ sym (map-append is_low (take i ns) (slice_index_or ns i 0 ∷ []))
    ∙ ap lows (sym (take_more ns i 0 lt))
