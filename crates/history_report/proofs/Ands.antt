-- One result after another, and a result that isn't well.
use Rattle.std.proofs.Common.{◌≡◌, Result, Ok, Err, OnOk, IfOk, sym, subst}
use Rattle.std.specs.Result.{IsErr, result_and}
use Rattle.std.proofs.lemmas.Bool.{false≢true}

pub on_both : {A B E : Type 0} (P : Type 0) (first : Result A E) (second : Result B E) {both : Result B E} → both ≡ result_and first second →
    OnOk first P → OnOk both P
on_both P (Ok a) (Ok b) is p = subst (λ r. OnOk r P) (sym is) p
on_both P (Ok a) (Err e) is p = subst (λ r. OnOk r P) (sym is) tt
on_both P (Err e) second is p = subst (λ r. OnOk r P) (sym is) tt

-- what the second one has is more where the first one is well
pub if_both : {A B E P : Type 0} (Q R : B → Type 0) (first : Result A E) (second : Result B E) {both : Result B E} → both ≡ result_and first second →
    OnOk first P → IfOk second Q → (P → (b : B) → Q b → R b) → IfOk both R
if_both Q R (Ok a) (Ok b) is p q f = subst (λ r. IfOk r R) (sym is) (f p b q)
if_both Q R (Ok a) (Err e) is p q f = subst (λ r. IfOk r R) (sym is) tt
if_both Q R (Err e) second is p q f = subst (λ r. IfOk r R) (sym is) tt

pub nothing_of_err : {A E : Type 0} (P : A → Type 0) (r : Result A E) → IsErr r → IfOk r P
nothing_of_err P (Ok a) bad = absurd (false≢true bad)
nothing_of_err P (Err e) bad = tt
