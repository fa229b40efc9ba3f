use Rattle.std.proofs.Common.{◌≡◌, List, ℕ, Some, subst}
use Rattle.std.specs.Prelude.{Contains, slice_get}
use Rattle.std.specs.List.{IsDistinct}
use Rattle.std.specs.Str.{bytes_eq}
use Rattle.width_check.proofs.Scopes.{found_within, found_is, not_found}
use Rattle.width_check.proofs.scope.Scope.find.Goals as goal

pub returns-in_err-place-clause-none : goal.returns-in_err-place-clause-none
returns-in_err-place-clause-none c =
    rw c.from_residual.ensures (not_found c.args.self.now.decls.now c.args.name.now
    (subst (λ (ns : List (List ℕ)). ¬ Contains ns c.args.name.now) c.args.self.now.in_order c.in_err-place.ensures.none))

pub bounds-self-place : goal.bounds-self-place
bounds-self-place c =
    found_within c.args.self.now.decls.now c.args.name.now c.in_ok-place.place
    (subst (λ (ns : List (List ℕ)). slice_get ns c.in_ok-place.place ≡ Some c.args.name.now) c.args.self.now.in_order c.in_ok-place.ensures.some)

pub returns-clause-some : goal.returns-clause-some
returns-clause-some c =
    found_is c.args.self.now.decls.now c.args.name.now c.in_ok-place.place c.index-self-place.result
    (subst (λ (ns : List (List ℕ)). IsDistinct bytes_eq ns) c.args.self.now.in_order c.find.ensures.distinct)
    (subst (λ (ns : List (List ℕ)). slice_get ns c.in_ok-place.place ≡ Some c.args.name.now) c.args.self.now.in_order c.in_ok-place.ensures.some)
