use Rattle.std.proofs.Common.{◌∙◌, take, ap, refl}
use Rattle.std.proofs.lemmas.List.{take_all}
use Rattle.prs_core.specs.Fans.{guard_names}
use Rattle.guard_rows.proofs.Added.{none_added, added_as, guard_step}
use Rattle.guard_rows.proofs.edges.add_guard.Goals as goal

pub loop-term-init : goal.loop-term-init
loop-term-init c = none_added c.args.reader _ (λ m. 0) c.args.edges.now.items (λ m. refl) (λ m. refl)

pub loop-term-preserved : goal.loop-term-preserved
loop-term-preserved c =
    guard_step c.args.reader c.loop-term.term-index c.terms-term-items.result.now c.term-item.result c.args.edges.now.items c.loop-term.edges.items _
    c.loop-term-test.true c.term-item.is c.loop-term.invariant c.in_ok-add_term.ensures.added

pub returns-clause-added : goal.returns-clause-added
returns-clause-added c =
    let terms = c.terms-term-items.result.now in
    added_as c.args.reader (λ m. guard_names m (take c.loop-term.term-index terms)) (λ m. guard_names m c.args.guard.now) (λ m. 0) (λ m. 0)
    c.args.edges.now.items c.loop-term.edges.items
    (λ m. ap (guard_names m) (take_all c.loop-term.term-index terms c.loop-term-test.false ∙ c.terms-term-items.ensures)) (λ m. refl)
    c.loop-term.invariant
