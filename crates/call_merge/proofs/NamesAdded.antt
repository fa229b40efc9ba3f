-- Names of procedures put into a table one after the other.
use Rattle.std.proofs.Common.{◌≡◌, ℕ, zero, suc, ◌+◌, ◌<◌, List, [], ◌∷◌, ◌++◌, length, get_or, take, Some, sym, ap, ◌∙◌, arith}
use Rattle.std.specs.Prelude.{slice_get}
use Rattle.std.proofs.lemmas.List.{take_more, map-append}
use Rattle.chp_base.specs.declared.symbols.Added.{Added}
use Rattle.chp_base.specs.declared.symbols.Added.TheVariants.{Fresh, Known}
use Rattle.chp_base.specs.Symbols.{IfFresh, IfKnown}
use Rattle.chp_syntax.specs.declared.tree.Proc.{Proc}
use Rattle.call_merge.proofs.Whole.{names_of}

got_front : (qs : List Proc) (i k : ℕ) (n : List ℕ) → slice_get (names_of (take i qs)) k ≡ Some n → (k < i) × (slice_get (names_of qs) k ≡ Some n)
got_front [] zero k n is = absurd (cc is)
got_front [] (suc i) k n is = absurd (cc is)
got_front (q ∷ qs) zero k n is = absurd (cc is)
got_front (q ∷ qs) (suc i) zero n is = (omega arith, is)
got_front (q ∷ qs) (suc i) (suc k) n is = let r = got_front qs i k n is in (omega (arith, r.0), r.1)

got_here : (qs : List Proc) (i : ℕ) (q : Proc) → i < length qs → q ≡ get_or qs i q → slice_get (names_of qs) i ≡ Some q.name.name
got_here [] i q within is = absurd (omega (arith, within))
got_here (r ∷ qs) zero q within is = ap (λ (x : Proc). Some x.name.name) (sym is)
got_here (r ∷ qs) (suc i) q within is = got_here qs i q (omega (arith, within)) is

abbrev pub AreApart : List Proc → Type 0
AreApart qs = (k j : ℕ) (name : List ℕ) → k < j → slice_get (names_of qs) k ≡ Some name → ¬ (slice_get (names_of qs) j ≡ Some name)

pub name_added : (qs : List Proc) (i : ℕ) (q : Proc) (old new : List (List ℕ)) (name : List ℕ) (a : Added) → i < length qs → q ≡ get_or qs i q
    → AreApart qs → old ≡ names_of (take i qs) → name ≡ q.name.name → IfKnown (λ k. slice_get old k ≡ Some name) a
    → IfFresh (λ k. new ≡ old ++ name ∷ []) a → new ≡ names_of (take (i + 1) qs)
name_added qs i q old new name (Fresh k) within is apart so_far named known fresh =
    fresh ∙ (ap (λ (ns : List (List ℕ)). ns ++ name ∷ []) so_far ∙ (ap (λ (n : List ℕ). names_of (take i qs) ++ n ∷ []) named
    ∙ (sym (map-append (λ (x : Proc). x.name.name) (take i qs) (q ∷ []))
    ∙ ap names_of (sym (take_more qs i q within ∙ ap (λ (x : Proc). take i qs ++ x ∷ []) (sym is))))))
name_added qs i q old new name (Known k) within is apart so_far named known fresh =
    let there : slice_get (names_of (take i qs)) k ≡ Some q.name.name =
    ap (λ (ns : List (List ℕ)). slice_get ns k) (sym so_far) ∙ (known ∙ ap (λ (n : List ℕ). Some n) named) in
    let before = got_front qs i k q.name.name there in
    absurd (apart k i q.name.name before.0 before.1 (got_here qs i q within is))
