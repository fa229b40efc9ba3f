use Rattle.std.proofs.Common.{◌≡◌, ℕ, false, true, List, Some, length, get_or, ap, subst, arith}
use Rattle.std.specs.Prelude.{Contains, slice_get}
use Rattle.std.specs.List.{IsDistinct}
use Rattle.std.specs.Str.{bytes_eq}
use Rattle.width_check.proofs.Scopes.{found_within, not_found}
use Rattle.width_check.proofs.Numbering.{numbers_length, numbered_var, numbered_channel}
use Rattle.width_check.proofs.scope.Scope.number.Goals as goal

pub index-requires : goal.index-requires
index-requires c =
    let place = subst (λ (ns : List (List ℕ)). slice_get ns c.in-Some.place ≡ Some c.args.name.now) c.args.self.now.in_order c.in-Some.ensures.some in
    let within = found_within c.args.self.now.decls.now c.args.name.now c.in-Some.place place in
    let count = numbers_length 0 0 c.args.self.now.decls.now in
    omega (arith, ap length c.args.self.now.numbered)

pub unreachable-requires : goal.unreachable-requires
unreachable-requires c =
    let none = not_found c.args.self.now.decls.now c.args.name.now (subst (λ (ns : List (List ℕ)). ¬ Contains ns c.args.name.now) c.args.self.now.in_order
    c.in-None.ensures.none) in
    let no : false ≡ true = rw none at c.requires in
    cc no

pub returns-clause-var : goal.returns-clause-var
returns-clause-var c =
    let place = subst (λ (ns : List (List ℕ)). slice_get ns c.in-Some.place ≡ Some c.args.name.now) c.args.self.now.in_order c.in-Some.ensures.some in
    let distinct = subst (λ (ns : List (List ℕ)). IsDistinct bytes_eq ns) c.args.self.now.in_order c.find.ensures.distinct in
    λ is.
    let found = numbered_var c.index.result.now 0 0 c.args.self.now.decls.now c.args.name.now c.in-Some.place distinct place is in
    let here = ap (λ (xs : List ℕ). get_or xs c.in-Some.place c.index.result.now) c.args.self.now.numbered in
    omega (arith, c.index.ensures, here, found)

pub returns-clause-channel : goal.returns-clause-channel
returns-clause-channel c =
    let place = subst (λ (ns : List (List ℕ)). slice_get ns c.in-Some.place ≡ Some c.args.name.now) c.args.self.now.in_order c.in-Some.ensures.some in
    let distinct = subst (λ (ns : List (List ℕ)). IsDistinct bytes_eq ns) c.args.self.now.in_order c.find.ensures.distinct in
    λ is.
    let found = numbered_channel c.index.result.now 0 0 c.args.self.now.decls.now c.args.name.now c.in-Some.place distinct place is in
    let here = ap (λ (xs : List ℕ). get_or xs c.in-Some.place c.index.result.now) c.args.self.now.numbered in
    omega (arith, c.index.ensures, here, found)
