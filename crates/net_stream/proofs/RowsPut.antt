-- The rows of truth tables of two and of three inputs, and the terms that stand for them.
use Rattle.std.proofs.Common.{◌≡◌, ◌∙◌, ℕ, zero, suc, ◌+◌, ◌<◌, Bool, true, false, List, [], ◌∷◌, ◌++◌, drop, map, All, refl, sym, ap, arith}
use mathlib.Core.Bool.{beq}
use Rattle.std.specs.Prelude.{filter, not, if◌then◌else◌}
use Rattle.std.proofs.lemmas.List.Elements.{All-nil, All-cons, All-head, All-tail}
use Rattle.prs_core.specs.declared.rule.Literal.{Literal}
use Rattle.prs_core.specs.Nets.{IsBelow, is_high}
use Rattle.prs_core.specs.Pairs.{Pair, rails_of}
use Rattle.function_blocks.specs.Gates.{minterm, table}
use Rattle.function_blocks.specs.Waves.{rows_of}
use Rattle.net_compose.specs.declared.ending.Ending.{Ending}
use Rattle.net_compose.specs.Circuits.{with_ends}
use Rattle.net_stream.specs.Led.{on_row, on_rows, row_at}
use Rattle.net_stream.proofs.Puts.{ends_more}

pub next_pair : (n : ℕ) → n < 4 → drop n (table 2) ≡ row_at 2 n ∷ drop (n + 1) (table 2)
next_pair zero l = refl
next_pair (suc zero) l = refl
next_pair (suc (suc zero)) l = refl
next_pair (suc (suc (suc zero))) l = refl
next_pair (suc (suc (suc (suc n)))) l = absurd (omega (arith, l))

pub next_triple : (n : ℕ) → n < 8 → drop n (table 3) ≡ row_at 3 n ∷ drop (n + 1) (table 3)
next_triple zero l = refl
next_triple (suc zero) l = refl
next_triple (suc (suc zero)) l = refl
next_triple (suc (suc (suc zero))) l = refl
next_triple (suc (suc (suc (suc zero)))) l = refl
next_triple (suc (suc (suc (suc (suc zero))))) l = refl
next_triple (suc (suc (suc (suc (suc (suc zero)))))) l = refl
next_triple (suc (suc (suc (suc (suc (suc (suc zero))))))) l = refl
next_triple (suc (suc (suc (suc (suc (suc (suc (suc n)))))))) l = absurd (omega (arith, l))

module _ (inputs : List Pair) (f : List Bool → Bool) where
  apart : (b : Bool) (row : List Bool) (rest : List (List Bool))
      → map (minterm inputs) (if b then row ∷ filter f rest else filter f rest) ≡ map (minterm inputs) (if b then row ∷ [] else []) ++ on_rows inputs f rest
  apart true row rest = refl
  apart false row rest = refl

  pub row_more : (ending : Ending) (row : List Bool) (rest left : List (List Bool)) → left ≡ row ∷ rest
      → with_ends ending (on_rows inputs f left) ≡ with_ends ending (on_row inputs f row) ++ with_ends ending (on_rows inputs f rest)
  row_more ending row rest left e =
      ap (λ rows. with_ends ending (on_rows inputs f rows)) e
      ∙ (ap (with_ends ending) (apart (f row) row rest) ∙ ends_more ending (on_row inputs f row) (on_rows inputs f rest))

  pub row_holds : (row : List Bool) → f row ≡ true → on_row inputs f row ≡ minterm inputs row ∷ []
  row_holds row e = ap (λ b. map (minterm inputs) (if b then row ∷ [] else [])) e

  pub row_fails : (row : List Bool) → f row ≡ false → on_row inputs f row ≡ []
  row_fails row e = ap (λ b. map (minterm inputs) (if b then row ∷ [] else [])) e

-- whether the function has the value that is asked for
pub has_value : (one v : Bool) (f : List Bool → Bool) (row : List Bool) → v ≡ f row → beq v one ≡ true → rows_of one f row ≡ true
has_value true true f row is same = sym is
has_value true false f row is same = absurd (cc)
has_value false true f row is same = absurd (cc)
has_value false false f row is same = ap not (sym is)

pub has_another : (one v : Bool) (f : List Bool → Bool) (row : List Bool) → v ≡ f row → beq v one ≡ false → rows_of one f row ≡ false
has_another true true f row is other = absurd (cc)
has_another true false f row is other = sym is
has_another false true f row is other = ap not (sym is)
has_another false false f row is other = absurd (cc)

-- the rails that are high in a row
pub rail_near : (count : ℕ) (b : Bool) (p : Pair) → p.t < count → p.f < count → (if b then p.t else p.f) < count
rail_near count true p h k = h
rail_near count false p h k = k

module _ (count : ℕ) where
  abbrev Near : Literal → Type 0
  Near l = l.node < count

  pub minterm_near : (ps : List Pair) (bs : List Bool) → All (λ n. n < count) (rails_of ps) → All Near (minterm ps bs)
  minterm_near [] bs h = All-nil Near
  minterm_near (p ∷ ps) [] h = All-nil Near
  minterm_near (p ∷ ps) (b ∷ bs) h =
      let tail = All-tail (λ n. n < count) p.t (p.f ∷ rails_of ps) h in
      All-cons Near (is_high (if b then p.t else p.f)) (minterm ps bs)
      (rail_near count b p (All-head (λ n. n < count) p.t (p.f ∷ rails_of ps) h) (All-head (λ n. n < count) p.f (rails_of ps) tail))
      (minterm_near ps bs (All-tail (λ n. n < count) p.f (rails_of ps) tail))

  pub minterm_below : (ps : List Pair) (bs : List Bool) → All (λ n. n < count) (rails_of ps) → IsBelow count (minterm ps bs ∷ [])
  minterm_below ps bs h =
      All-cons (λ (t : List Literal). All Near t) (minterm ps bs) [] (minterm_near ps bs h) (All-nil (λ (t : List Literal). All Near t))
