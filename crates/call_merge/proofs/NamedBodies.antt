-- Procedures that are found in a table of their names.
use Rattle.std.proofs.Common.{◌≡◌, ℕ, zero, suc, ◌<◌, Bool, true, false, List, [], ◌∷◌, length, map, get_or, Some, None, refl, subst, arith}
use Rattle.std.specs.Prelude.{Contains, slice_get}
use Rattle.std.specs.List.{IsDistinct, AllByRecursion}
use Rattle.std.specs.Str.{bytes_eq}
use Rattle.std.proofs.lemmas.Map.Keys.{IsDistinct-head, IsDistinct-tail}
use Rattle.std.proofs.lemmas.Slice.Eq.{bytes_eq-Decides}
use Rattle.chp_syntax.specs.View.{procedure_of}
use Rattle.width_check.proofs.Least.{in_rest}
use Rattle.call_merge.specs.declared.bodies.Body.{Body}
use Rattle.call_merge.specs.Bodies.{procedures_of}
use Rattle.call_merge.specs.Inlining.{procedure_named}

abbrev pub body_names : List Body → List (List ℕ)
body_names bs = map (λ (b : Body). b.procedure.name.name) bs

pub body_within : (bs : List Body) (name : List ℕ) (i : ℕ) → slice_get (body_names bs) i ≡ Some name → i < length bs
body_within [] name i is = absurd (cc is)
body_within (b ∷ bs) name zero is = omega arith
body_within (b ∷ bs) name (suc i) is = let less = body_within bs name i is in omega (arith, less)

none_among : (n name : List ℕ) (bs : List Body) (i : ℕ) → AllByRecursion (λ y. bytes_eq n y ≡ false) (body_names bs) → slice_get (body_names bs) i ≡ Some name →
    bytes_eq n name ≡ false
none_among n name [] i none is = absurd (cc is)
none_among n name (b ∷ bs) zero none is = let same : b.procedure.name.name ≡ name = cc is in subst (λ (m : List ℕ). bytes_eq n m ≡ false) same none.0
none_among n name (b ∷ bs) (suc i) none is = none_among n name bs i none.1 is

pub body_is : (bs : List Body) (name : List ℕ) (i : ℕ) (e : Body) → IsDistinct bytes_eq (body_names bs) → slice_get (body_names bs) i ≡ Some name →
    procedure_named (procedures_of bs) name ≡ Some (procedure_of (get_or bs i e).procedure)
body_is [] name i e distinct is = absurd (cc is)
body_is (b ∷ bs) name zero e distinct is =
    let same : b.procedure.name.name ≡ name = cc is in
    let test = (bytes_eq-Decides b.procedure.name.name name).1 same in
    rw test refl
body_is (b ∷ bs) name (suc i) e distinct is =
    let test = none_among b.procedure.name.name name bs i (IsDistinct-head bytes_eq b.procedure.name.name (body_names bs) distinct) is in
    rw test (body_is bs name i e (IsDistinct-tail bytes_eq b.procedure.name.name (body_names bs) distinct) is)

not_here : (b : Body) (bs : List Body) (name : List ℕ) (t : Bool) → bytes_eq b.procedure.name.name name ≡ t → ¬ Contains (body_names (b ∷ bs)) name →
    procedure_named (procedures_of bs) name ≡ None → procedure_named (procedures_of (b ∷ bs)) name ≡ None
not_here b bs name true is none rest = absurd (none (0, omega arith, (bytes_eq-Decides b.procedure.name.name name).0 is))
not_here b bs name false is none rest = rw is rest

pub no_body : (bs : List Body) (name : List ℕ) → ¬ Contains (body_names bs) name → procedure_named (procedures_of bs) name ≡ None
no_body [] name none = refl
no_body (b ∷ bs) name none = not_here b bs name (bytes_eq b.procedure.name.name name) refl none
    (no_body bs name (λ c. none (in_rest b.procedure.name.name name (body_names bs) c)))
