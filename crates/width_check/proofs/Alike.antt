-- What is asked of a whole list is what is asked of the rest of it.
use Rattle.std.proofs.Common.{◌≡◌, Bool, true, false, refl}
use Rattle.std.specs.Bool.{Decides}

pub record Alike (P Q : Type 0) : Type 0 where
  pub whole : Q → P
  pub rest : P → Q

pub one_wrong : (P A Q : Type 0) → Alike P (A × Q) → ¬ A → ¬ P
one_wrong P A Q same not p = not (same.rest p).0

pub first_wrong : (P A B Q : Type 0) → Alike P (A × B × Q) → ¬ A → ¬ P
first_wrong P A B Q same not p = not (same.rest p).0

pub second_wrong : (P A B Q : Type 0) → Alike P (A × B × Q) → ¬ B → ¬ P
second_wrong P A B Q same not p = not (same.rest p).1

pub holds : (P : Type 0) → P → Decides true P
holds P p = (λ _. p, λ _. refl)

pub fails : (P : Type 0) → ¬ P → Decides false P
fails P not = (λ e. absurd (cc e), λ p. absurd (not p))

pub not_so : (r : Bool) (P : Type 0) → Decides r P → r ≡ false → ¬ P
not_so r P decides is p = let so = decides.1 p in cc
