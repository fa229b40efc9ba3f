use Rattle.std.proofs.Common.{◌≡◌, List, ℕ, Some, sym, ap, ◌∙◌, subst, arith}
use Rattle.std.specs.Prelude.{Contains, slice_get}
use Rattle.std.specs.List.{IsDistinct}
use Rattle.std.specs.Str.{bytes_eq}
use Rattle.chp_syntax.specs.View.{procedure_of}
use Rattle.call_merge.specs.declared.bodies.Body.{Body}
use Rattle.call_merge.proofs.NamedBodies.{body_within, body_is, no_body}
use Rattle.call_merge.proofs.bodies.Procedures.find.Goals as goal

pub returns-in_err-place-clause-none : goal.returns-in_err-place-clause-none
returns-in_err-place-clause-none c =
    rw c.from_residual.ensures (no_body c.args.self.now.bodies.items c.args.name.now
    (subst (λ (ns : List (List ℕ)). ¬ Contains ns c.args.name.now) c.args.self.now.in_order c.in_err-place.ensures.none))

pub index-requires : goal.index-requires
index-requires c =
    let less = body_within c.args.self.now.bodies.items c.args.name.now c.in_ok-place.place
    (subst (λ (ns : List (List ℕ)). slice_get ns c.in_ok-place.place ≡ Some c.args.name.now) c.args.self.now.in_order c.in_ok-place.ensures.some) in
    omega (arith, less, c.args.self.now.bodies.ok.0)

pub returns-clause-some : goal.returns-clause-some
returns-clause-some c =
    body_is c.args.self.now.bodies.items c.args.name.now c.in_ok-place.place c.index.result.now
    (subst (λ (ns : List (List ℕ)). IsDistinct bytes_eq ns) c.args.self.now.in_order c.find.ensures.distinct)
    (subst (λ (ns : List (List ℕ)). slice_get ns c.in_ok-place.place ≡ Some c.args.name.now) c.args.self.now.in_order c.in_ok-place.ensures.some)
    ∙ ap (λ (b : Body). Some (procedure_of b.procedure)) (sym c.index.ensures)
