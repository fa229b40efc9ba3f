-- One result after another: what is so where both are well, and where the first one is not.
use Rattle.std.proofs.Common.{◌≡◌, Result, Ok, Err, OnOk, IfOk, IfErr, IsOkAnd, sym, subst}
use Rattle.std.specs.Result.{IsErrAnd, result_and}
use Rattle.chp_syntax.specs.declared.parser.sight.Stop.{Stop}
use Rattle.chp_syntax.specs.declared.parser.sight.Stop.TheVariants.{Fault, NoMemory}
use Rattle.chp_syntax.specs.Parts.{WhenFault}
use Rattle.chp_syntax.proofs.Steps.{exit, fault_by}

pub ok_of_both : {A B E : Type 0} (P : B → Type 0) (first : Result A E) (x : B) {both : Result B E} → both ≡ result_and first (Ok x) → OnOk first (P x) →
    IfOk both P
ok_of_both P (Ok a) x is holds = subst (λ r. IfOk r P) (sym is) holds
ok_of_both P (Err e) x is holds = subst (λ r. IfOk r P) (sym is) tt

pub on_ok : {A E : Type 0} {P Q : Type 0} → (P → Q) → (r : Result A E) → OnOk r P → OnOk r Q
on_ok f (Ok a) p = f p
on_ok f (Err e) p = tt

pub and_good : {A B E : Type 0} (P : B → Type 0) {Q : A → Type 0} (first : Result A E) (x : B) {both : Result B E} → both ≡ result_and first (Ok x) →
    ((a : A) → Q a → P x) → IfOk first Q → IfOk both P
and_good P (Ok a) x is f q = subst (λ r. IfOk r P) (sym is) (f a q)
and_good P (Err e) x is f q = subst (λ r. IfOk r P) (sym is) tt

pub and_bad : {A B : Type 0} {P Q : Type 0} (first : Result A Stop) (x : B) {both : Result B Stop} → both ≡ result_and first (Ok x) → (P → Q) →
    IfErr first (λ e. WhenFault e P) → IfErr both (λ e. WhenFault e Q)
and_bad {Q = Q} (Ok a) x is f w = subst (λ r. IfErr r (λ e. WhenFault e Q)) (sym is) tt
and_bad {Q = Q} (Err e) x is f w = subst (λ r. IfErr r (λ e. WhenFault e Q)) (sym is) (fault_by e f w)

-- what is made of a part as it was read: it is well only where the part is, and at fault only where the part is
pub made_good : {A B : Type 0} {M : B → A → Type 0} {P : A → Type 0} {Q : B → Type 0} (part : Result A Stop) (made : Result B Stop) →
    IfOk made (λ b. IsOkAnd part (λ a. M b a)) → IfOk part P → ((a : A) (b : B) → M b a → P a → Q b) → IfOk made Q
made_good (Ok a) (Ok b) m p f = f a b m p
made_good (Err e) (Ok b) m p f = absurd m
made_good part (Err e) m p f = tt

pub made_on : {A B : Type 0} (M : B → A → Type 0) {P Q : Type 0} (part : Result A Stop) (made : Result B Stop) → IfOk made (λ b. IsOkAnd part (λ a. M b a)) →
    OnOk part P → (P → Q) → OnOk made Q
made_on M (Ok a) (Ok b) m p f = f p
made_on M (Err e) (Ok b) m p f = absurd m
made_on M part (Err e) m p f = tt

pub on_both : {A T : Type 0} (M : A → Type 0) {P Q : Type 0} (part : Result A Stop) (made : Result T Stop) → OnOk made (IsOkAnd part M) → OnOk part P →
    (P → Q) → OnOk made Q
on_both M (Ok a) (Ok b) m p f = f p
on_both M (Err e) (Ok b) m p f = absurd m
on_both M part (Err e) m p f = tt

pub made_bad : {A B P Q : Type 0} (part : Result A Stop) (made : Result B Stop) → IfErr made (λ e. WhenFault e (part ≡ Err Fault)) →
    IfErr part (λ e. WhenFault e P) → (P → Q) → IfErr made (λ e. WhenFault e Q)
made_bad part (Ok b) m p f = tt
made_bad {P = P} part (Err Fault) m p f = f (subst (λ r. IfErr r (λ e. WhenFault e P)) m p)
made_bad part (Err (NoMemory e)) m p f = tt

-- a part that was read well
pub well_on : {A : Type 0} (M : A → Type 0) {P : Type 0} (part : Result A Stop) → IsOkAnd part M → OnOk part P → P
well_on M (Ok a) m p = p
well_on M (Err e) m p = absurd m

-- the way out of a loop that adds a part as it was read
pub exit_of : {A T P Q : Type 0} (part : Result A Stop) (r : Result T Stop) (e : Stop) → IsErrAnd r (λ x. x ≡ e) → WhenFault e (part ≡ Err Fault) →
    IfErr part (λ d. WhenFault d P) → (P → Q) → IfErr r (λ d. WhenFault d Q)
exit_of {P = P} part r e h m p f = exit r e h f (fault_of part e m p)
  where
    fault_of : {A : Type 0} (part : Result A Stop) (e : Stop) → WhenFault e (part ≡ Err Fault) → IfErr part (λ d. WhenFault d P) → WhenFault e P
    fault_of part Fault m p = subst (λ r. IfErr r (λ d. WhenFault d P)) m p
    fault_of part (NoMemory x) m p = tt
