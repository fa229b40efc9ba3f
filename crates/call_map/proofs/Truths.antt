-- Truth values.
use Rattle.std.proofs.Common.{◌≡◌, Bool, true, false, refl}
use Rattle.std.specs.Prelude.{not, ◌&&◌, ◌||◌}

pub or_false : (b : Bool) → (b || false) ≡ b
or_false true = refl
or_false false = refl

pub or_left : (a b : Bool) → a ≡ true → (a || b) ≡ true
or_left true b e = refl
or_left false b e = absurd (cc e)

pub or_right : (a b : Bool) → b ≡ true → (a || b) ≡ true
or_right true b e = refl
or_right false b e = e

pub or_low : (a b : Bool) → (a || b) ≡ false → (a ≡ false) × (b ≡ false)
or_low true b e = absurd (cc e)
or_low false b e = (refl, e)

pub and_false : (a : Bool) → (a && false) ≡ false
and_false true = refl
and_false false = refl

pub not_not : (b : Bool) → not (not b) ≡ b
not_not true = refl
not_not false = refl

pub no_not : (b : Bool) → b ≡ not b → ⊥
no_not true e = cc
no_not false e = cc

pub true_false : (b : Bool) → b ≡ true → b ≡ false → ⊥
true_false b e f = cc

pub is_false : (b : Bool) → (b ≡ true → ⊥) → b ≡ false
is_false true f = absurd (f refl)
is_false false f = refl

pub differ : (a b : Bool) → (a ≡ b → ⊥) → a ≡ not b
differ true true f = absurd (f refl)
differ true false f = refl
differ false true f = refl
differ false false f = absurd (f refl)
