-- The order of spans in a text.
use Rattle.std.specs.Prelude.{◌≡◌, ◌<◌, ◌≤◌, ◌⊎◌}
use Rattle.chp_base.specs.declared.span.Span.{Span}

-- s begins before t, or at the same byte and ends no earlier: of two spans that begin together the outer one is first
abbrev pub IsNoLater : Span → Span → Type 0
IsNoLater s t = (s.from < t.from) ⊎ ((s.from ≡ t.from) × (t.to ≤ s.to))

-- the first of the spans with P
pub record IsFirst (P : Span → Type 0) (s : Span) : Type 0 where
  pub there : P s
  pub first : (t : Span) → P t → IsNoLater s t
