-- The guards of a selection, one after another.
use Rattle.std.proofs.Common.{ℕ, List, ◌∷◌}
use Rattle.chp_meaning.specs.declared.effect.TrueGuards.{TrueGuards}
use Rattle.chp_meaning.specs.declared.effect.TrueGuards.TheVariants.{Zero, One, Several as Many}

-- the guards found so far, and then these
abbrev pub after_found : TrueGuards → List ℕ → List ℕ
after_found Zero rest = rest
after_found (One k) rest = k ∷ rest
after_found Many rest = 0 ∷ 0 ∷ rest
