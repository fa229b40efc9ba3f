-- Tables from the numbers of variables or channels to spans.
use Rattle.std.specs.Prelude.{◌≡◌, ◌⊎◌, ℕ, Option, Some}
use Rattle.chp_base.specs.declared.span.Span.{Span}
use Rattle.width_check.specs.Order.{IsNoLater}
use Rattle.sharing_check.specs.declared.clash.Clash.{Clash}
use Rattle.sharing_check.specs.Leasts.{IsLeast, IsEither, IsInOrder}

abbrev pub Lookup : Type 0
Lookup = ℕ → Option Span

-- the new table adds this span of the name, and keeps for each name the first span
abbrev pub Notes : Lookup → ℕ → Span → Lookup → Type 0
Notes old name at new = (x : ℕ) → IsLeast IsNoLater (λ s. (old x ≡ Some s) ⊎ ((x ≡ name) × (s ≡ at))) (new x)

-- the new table has for each name the first of the spans in two tables
abbrev pub Joins : Lookup → Lookup → Lookup → Type 0
Joins one other new = (x : ℕ) → IsLeast IsNoLater (IsEither (one x) (other x)) (new x)

-- the spans that two tables have for one name, as a pair
pub record Meeting (one other : Lookup) (c : Clash) : Type 0 where
  pub name : ℕ
  pub here : Span
  pub there : Span
  pub in_one : one name ≡ Some here
  pub in_other : other name ≡ Some there
  pub pair : IsInOrder here there c
