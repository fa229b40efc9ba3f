-- The least of some values, and the order of pairs of spans.
use Rattle.std.specs.Prelude.{◌≡◌, ◌⊎◌, Option, Some}
use Rattle.chp_base.specs.declared.span.Span.{Span}
use Rattle.width_check.specs.Order.{IsNoLater}
use Rattle.sharing_check.specs.declared.clash.Clash.{Clash}

-- the least by R of the values with P, or None if there is none
pub record IsLeast {A : Type 0} (R : A → A → Type 0) (P : A → Type 0) (o : Option A) : Type 0 where
  pub there : (a : A) → o ≡ Some a → P a
  pub least : (b : A) → P b → (a : A) × (o ≡ Some a) × R a b

-- one of the two
abbrev pub IsEither : {A : Type 0} → Option A → Option A → A → Type 0
IsEither one other a = (one ≡ Some a) ⊎ (other ≡ Some a)

-- pairs of spans are compared by their second spans, and those with the same second span by their first
pub record IsNoLaterPair (c d : Clash) : Type 0 where
  pub by_second : IsNoLater c.second d.second
  pub by_first : c.second ≡ d.second → IsNoLater c.first d.first

-- the pair of two spans, the earlier one first
pub record IsInOrder (s t : Span) (c : Clash) : Type 0 where
  pub order : IsNoLater c.first c.second
  pub these : ((c.first ≡ s) × (c.second ≡ t)) ⊎ ((c.first ≡ t) × (c.second ≡ s))
