-- The guards are over the nodes that they are given, and the rules of several nodes one after another.
use Rattle.std.proofs.Common.{◌≡◌, ℕ, zero, suc, ◌<◌, ◌*◌, ◌+◌, List, [], ◌∷◌, ◌++◌, All, length, map, take, drop, slice_index_or, arith, sym, ◌∙◌, refl, subst}
use Rattle.std.specs.Prelude.{Result, Ok, Err, IfOk}
use Rattle.std.proofs.lemmas.List.Elements.{All-nil, All-cons, All-head, All-tail, All-append}
use Rattle.prs_core.specs.declared.rule.Literal.{Literal}
use Rattle.prs_core.specs.Nets.{GuardValue, RulesValue, IsBelow, IsAlone, is_high, is_low}
use Rattle.prs_core.specs.Pairs.{Pair, lows, rails_of}
use Rattle.cell_select.specs.Selections.{all_false}
use Rattle.cell_select.specs.PortNodes.{pairs_of}
use Rattle.cell_select.proofs.PairLists.{rails_again}

abbrev Under : ℕ → Literal → Type 0
Under count l = l.node < count

term_below : (count n : ℕ) → n < count → All (Under count) (is_high n ∷ [])
term_below count n h = All-cons (Under count) (is_high n) [] h (All-nil (Under count))

pub terms_below : (count : ℕ) (ns : List ℕ) → All (λ n. n < count) ns → IsBelow count (map (λ n. is_high n ∷ []) ns)
terms_below count [] h = All-nil (λ t. All (Under count) t)
terms_below count (n ∷ ns) h =
    All-cons (λ t. All (Under count) t) (is_high n ∷ []) (map (λ n. is_high n ∷ []) ns) (term_below count n (All-head (λ n. n < count) n ns h))
    (terms_below count ns (All-tail (λ n. n < count) n ns h))

literals_below : (count : ℕ) (ns : List ℕ) → All (λ n. n < count) ns → All (Under count) (lows ns)
literals_below count [] h = All-nil (Under count)
literals_below count (n ∷ ns) h =
    All-cons (Under count) (is_low n) (lows ns) (All-head (λ n. n < count) n ns h) (literals_below count ns (All-tail (λ n. n < count) n ns h))

falses_below : (count : ℕ) (hs : List Pair) → All (λ n. n < count) (rails_of hs) → All (Under count) (all_false hs)
falses_below count [] h = All-nil (Under count)
falses_below count (p ∷ hs) h =
    let rest = All-tail (λ n. n < count) p.t (p.f ∷ rails_of hs) h in
    All-cons (Under count) (is_high p.f) (all_false hs) (All-head (λ n. n < count) p.f (rails_of hs) rest)
    (falses_below count hs (All-tail (λ n. n < count) p.f (rails_of hs) rest))

one_below : (count : ℕ) (t : List Literal) → All (Under count) t → IsBelow count (t ∷ [])
one_below count t h = All-cons (λ t. All (Under count) t) t [] h (All-nil (λ t. All (Under count) t))

pub lows_below : (count : ℕ) (ns : List ℕ) → All (λ n. n < count) ns → IsBelow count (lows ns ∷ [])
lows_below count ns h = one_below count (lows ns) (literals_below count ns h)

-- the same of a guard that is one of them, if it could be made
made_within : {E : Type 0} (count : ℕ) (r : Result GuardValue E) (wanted : GuardValue) → IfOk r (λ g. g ≡ wanted) → IsBelow count wanted →
    IfOk r (IsBelow count)
made_within count (Ok g) wanted is h = subst (IsBelow count) (sym is) h
made_within count (Err e) wanted is h = tt

pub some_within : {E : Type 0} (count : ℕ) (ns : List ℕ) (r : Result GuardValue E) → IfOk r (λ g. g ≡ map (λ n. is_high n ∷ []) ns) →
    All (λ n. n < count) ns → IfOk r (IsBelow count)
some_within count ns r is h = made_within count r (map (λ n. is_high n ∷ []) ns) is (terms_below count ns h)

pub lows_within : {E : Type 0} (count : ℕ) (ns : List ℕ) (r : Result GuardValue E) → IfOk r (λ g. g ≡ lows ns ∷ []) → All (λ n. n < count) ns →
    IfOk r (IsBelow count)
lows_within count ns r is h = made_within count r (lows ns ∷ []) is (lows_below count ns h)

pub with_lows_within : {E : Type 0} (count : ℕ) (first wanted : Literal) (ns : List ℕ) (r : Result GuardValue E) →
    IfOk r (λ g. g ≡ (first ∷ lows ns) ∷ []) → first ≡ wanted → wanted.node < count → All (λ n. n < count) ns → IfOk r (IsBelow count)
with_lows_within count first wanted ns r is same lt h =
    made_within count r ((first ∷ lows ns) ∷ []) is (one_below count (first ∷ lows ns) (All-cons (Under count) first (lows ns)
    (subst (λ (l : Literal). l.node < count) (sym same) lt) (literals_below count ns h)))

pub none_within : {E : Type 0} (count n : ℕ) (rails : List ℕ) (r : Result GuardValue E) → IfOk r (λ g. g ≡ all_false (pairs_of rails) ∷ []) →
    length rails ≡ 2 * n → All (λ n. n < count) rails → IfOk r (IsBelow count)
none_within count n rails r is even h =
    made_within count r (all_false (pairs_of rails) ∷ []) is (one_below count (all_false (pairs_of rails))
    (falses_below count (pairs_of rails) (subst (All (λ n. n < count)) (sym (rails_again n rails even)) h)))

-- a term of one literal or of two, and two terms of one
literal_below : (count : ℕ) (l wanted : Literal) → l ≡ wanted → wanted.node < count → All (Under count) (l ∷ [])
literal_below count l wanted same lt =
    All-cons (Under count) l [] (subst (λ (k : Literal). k.node < count) (sym same) lt) (All-nil (Under count))

pub one_within : {E : Type 0} (count : ℕ) (l wanted : Literal) (r : Result GuardValue E) → IfOk r (λ g. g ≡ (l ∷ []) ∷ []) → l ≡ wanted →
    wanted.node < count → IfOk r (IsBelow count)
one_within count l wanted r is same lt = made_within count r ((l ∷ []) ∷ []) is (one_below count (l ∷ []) (literal_below count l wanted same lt))

pub two_within : {E : Type 0} (count : ℕ) (l k wanted other : Literal) (r : Result GuardValue E) → IfOk r (λ g. g ≡ (l ∷ k ∷ []) ∷ []) → l ≡ wanted →
    k ≡ other → wanted.node < count → other.node < count → IfOk r (IsBelow count)
two_within count l k wanted other r is same both lt less =
    made_within count r ((l ∷ k ∷ []) ∷ []) is (one_below count (l ∷ k ∷ []) (All-cons (Under count) l (k ∷ [])
    (subst (λ (x : Literal). x.node < count) (sym same) lt) (literal_below count k other both less)))

pub either_within : {E : Type 0} (count : ℕ) (l k wanted other : Literal) (r : Result GuardValue E) → IfOk r (λ g. g ≡ (l ∷ []) ∷ (k ∷ []) ∷ []) →
    l ≡ wanted → k ≡ other → wanted.node < count → other.node < count → IfOk r (IsBelow count)
either_within count l k wanted other r is same both lt less =
    made_within count r ((l ∷ []) ∷ (k ∷ []) ∷ []) is (All-cons (λ t. All (Under count) t) (l ∷ []) ((k ∷ []) ∷ [])
    (literal_below count l wanted same lt) (one_below count (k ∷ []) (literal_below count k other both less)))

falses_take : (count k : ℕ) (hs : List Pair) → All (Under count) (all_false hs) → All (Under count) (all_false (take k hs))
falses_take count zero hs h = All-nil (Under count)
falses_take count (suc k) [] h = h
falses_take count (suc k) (p ∷ hs) h =
    All-cons (Under count) (is_high p.f) (all_false (take k hs)) (All-head (Under count) (is_high p.f) (all_false hs) h)
    (falses_take count k hs (All-tail (Under count) (is_high p.f) (all_false hs) h))

falses_drop : (count k : ℕ) (hs : List Pair) → All (Under count) (all_false hs) → All (Under count) (all_false (drop k hs))
falses_drop count zero hs h = h
falses_drop count (suc k) [] h = h
falses_drop count (suc k) (p ∷ hs) h = falses_drop count k hs (All-tail (Under count) (is_high p.f) (all_false hs) h)

pub only_within : {E : Type 0} (count n k : ℕ) (rails : List ℕ) (r : Result GuardValue E) →
    IfOk r (λ g. g ≡ (all_false (take k (pairs_of rails)) ++ is_high (slice_index_or rails (2 * k) 0) ∷ all_false (drop (k + 1) (pairs_of rails))) ∷ []) →
    length rails ≡ 2 * n → k < n → All (λ n. n < count) rails → IfOk r (IsBelow count)
only_within count n k rails r is even lt h =
    let falses = falses_below count (pairs_of rails) (subst (All (λ n. n < count)) (sym (rails_again n rails even)) h) in
    made_within count r _ is (one_below count _
    (All-append (Under count) (all_false (take k (pairs_of rails))) _ (falses_take count k (pairs_of rails) falses)
    (All-cons (Under count) (is_high (slice_index_or rails (2 * k) 0)) _ (h (2 * k) 0 (omega arith)) (falses_drop count (k + 1) (pairs_of rails) falses))))

-- a node whose guards are as they were, twice
pub alone_then : (a b c : RulesValue) (n : ℕ) → IsAlone a b n → IsAlone b c n → IsAlone a c n
alone_then a b c n x y = record { up = y.up ∙ x.up; down = y.down ∙ x.down }

pub alone_still : (a : RulesValue) (n : ℕ) → IsAlone a a n
alone_still a n = record { up = refl; down = refl }

pub within_still : (a b : ℕ) (ns : List ℕ) → b ≡ a → All (λ n. n < a) ns → All (λ n. n < b) ns
within_still a b ns same h = subst (λ k. All (λ n. n < k) ns) (sym same) h
