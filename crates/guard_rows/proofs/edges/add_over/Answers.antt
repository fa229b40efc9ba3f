use Rattle.std.proofs.Common.{ℕ, ◌*◌, ◌^◌, ◌<◌, false, vec_len, sym, ap, subst, refl, arith}
use Rattle.std.specs.Prelude.{IfSome, Option, ◌==◌}
use Rattle.guard_rows.specs.Places.{as_bit, is_over, override_step}
use Rattle.guard_rows.proofs.Added.{none_added, added_as, added_room, step_added}
use Rattle.guard_rows.proofs.edges.add_over.Goals as goal

pub add-requires : goal.add-requires
add-requires c =
    let old = c.args.edges.now in
    let listed : c.in-Some.node < vec_len old = subst (λ (o : Option ℕ). IfSome o (λ k. k < vec_len old)) c.in-Some.is c.requires.within in
    added_room c.args.row 536870912 4294967296 c.in-Some.node (λ m. false) (λ m. 0) old.items old.items c.index_mut.result.now
    (none_added c.args.row (λ m. false) (λ m. 0) old.items (λ m. refl) (λ m. refl))
    (λ m within. omega (arith, c.requires.room m (omega (arith, within, old.ok.0))))
    (omega (arith, listed, old.ok.0)) c.index_mut.ensures.value

pub returns-in_ok-add-clause-added : goal.returns-in_ok-add-clause-added
returns-in_ok-add-clause-added c =
    let old = c.args.edges.now in
    let n = c.in-Some.node in
    let listed : n < vec_len old = subst (λ (o : Option ℕ). IfSome o (λ k. k < vec_len old)) c.in-Some.is c.requires.within in
    added_as c.args.row (λ m. n == m) (λ m. is_over m c.args.over) (λ m. 536870912 * as_bit (n == m)) (λ m. 2 ^ 29 * override_step m c.args.over) old.items _
    (λ m. ap (is_over m) (sym c.in-Some.is)) (λ m. ap (λ (o : Option ℕ). 536870912 * override_step m o) (sym c.in-Some.is))
    (step_added c.args.row 536870912 n old.items c.index_mut.result.now c.add.new.self (omega (arith, listed, old.ok.0)) c.index_mut.ensures.value
    c.in_ok-add.ensures.total c.in_ok-add.ensures.readers)
