-- Low isn't high. A case that can't be is dear where `cc` reads all that is known there: these read nothing but the equation.
use Rattle.std.proofs.Common.{◌≡◌, true, false}

pub never : {A : Type 0} → false ≡ true → A
never e = absurd (cc e)

pub not_low : {A : Type 0} → true ≡ false → A
not_low e = absurd (cc e)
