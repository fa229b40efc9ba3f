-- Tables of names.
use Rattle.std.specs.Prelude.{ℕ}
use Rattle.chp_base.specs.declared.symbols.Added.{Added}
use Rattle.chp_base.specs.declared.symbols.Added.TheVariants.{Fresh, Known}

-- P of the place of a name that was new
abbrev pub IfFresh : (ℕ → Type 0) → Added → Type 0
IfFresh P (Fresh place) = P place
IfFresh P (Known place) = Unit {0}

-- P of the place of a name that was there
abbrev pub IfKnown : (ℕ → Type 0) → Added → Type 0
IfKnown P (Fresh place) = Unit {0}
IfKnown P (Known place) = P place
