-- The latches and the starts of a selection, one by one.
use Rattle.std.proofs.Common.{◌≡◌, ◌∙◌, ℕ, zero, suc, ◌<◌, List, [], ◌∷◌, ◌++◌, length, get_or, map, refl, sym, ap, arith}
use Rattle.std.specs.Prelude.{slice_set}
use Rattle.std.proofs.lemmas.List.{append_assoc, map-append}
use Rattle.prs_core.specs.declared.rule.Literal.{Literal}
use Rattle.prs_core.specs.Nets.{NodeRules, is_high, is_low, one_term}
use Rattle.prs_core.specs.Pairs.{Pair}
use Rattle.cell_select.specs.Selections.{all_false, only_one_true, latches}
use Rattle.net_compose.specs.Drivers.{wanted_latch}
use Rattle.net_compose.specs.Wanted.{one_wanted, all_unwanted}

pub falses_high : (hs : List Pair) → map is_high (all_unwanted hs) ≡ all_false hs
falses_high [] = refl
falses_high (h ∷ hs) = ap (λ l. is_high h.f ∷ l) (falses_high hs)

abbrev latch_of : ℕ → List Literal → NodeRules
latch_of request wanted = record { up = one_term wanted; down = one_term (is_low request ∷ []) }

-- the literals of one latch
wanted_at : (before hs : List Pair) (k : ℕ) (d : List Literal) → k < length hs →
    get_or (only_one_true before hs) k d ≡ all_false before ++ map is_high (one_wanted hs k)
wanted_at before [] k d within = absurd (omega arith)
wanted_at before (h ∷ hs) zero d within = ap (λ l. all_false before ++ is_high h.t ∷ l) (sym (falses_high hs))
wanted_at before (h ∷ hs) (suc k) d within =
    let all : all_false (before ++ h ∷ []) ≡ all_false before ++ is_high h.f ∷ [] = map-append (λ (g : Pair). is_high g.f) before (h ∷ []) in
    wanted_at (before ++ h ∷ []) hs k d (omega arith)
    ∙ (ap (λ l. l ++ map is_high (one_wanted hs k)) all ∙ append_assoc (all_false before) (is_high h.f ∷ []) (map is_high (one_wanted hs k)))

pub only_length : (before hs : List Pair) → length (only_one_true before hs) ≡ length hs
only_length before [] = refl
only_length before (h ∷ hs) = let e = only_length (before ++ h ∷ []) hs in omega (arith, e)

latch_at : (request : ℕ) (ws : List (List Literal)) (k : ℕ) (d : NodeRules) → k < length ws →
    get_or (map (latch_of request) ws) k d ≡ latch_of request (get_or ws k [])
latch_at request [] k d within = absurd (omega arith)
latch_at request (w ∷ ws) zero d within = refl
latch_at request (w ∷ ws) (suc k) d within = latch_at request ws k d (omega arith)

pub latch_here : (request : ℕ) (hs : List Pair) (k : ℕ) (d : NodeRules) → k < length hs →
    get_or (latches request hs) k d ≡ wanted_latch request (one_wanted hs k)
latch_here request hs k d within =
    let long = only_length [] hs in
    latch_at request (only_one_true [] hs) k d (omega (arith, long, within)) ∙ ap (latch_of request) (wanted_at [] hs k [] within)

mapped_length : (request : ℕ) (ws : List (List Literal)) → length (map (latch_of request) ws) ≡ length ws
mapped_length request [] = refl
mapped_length request (w ∷ ws) = let e = mapped_length request ws in omega (arith, e)

pub latches_length : (request : ℕ) (hs : List Pair) → length (latches request hs) ≡ length hs
latches_length request hs = mapped_length request (only_one_true [] hs) ∙ only_length [] hs

-- one rail in the place of another
pub one_set : (hs : List Pair) (place : ℕ) (h : Pair) → place < length hs → h ≡ get_or hs place h → slice_set (all_unwanted hs) place h.t ≡ one_wanted hs place
one_set [] place h within is = absurd (omega arith)
one_set (g ∷ hs) zero h within is = ap (λ (q : Pair). q.t ∷ all_unwanted hs) is
one_set (g ∷ hs) (suc place) h within is = ap (λ l. g.f ∷ l) (one_set hs place h (omega arith) is)
