use Rattle.std.proofs.Common.{◌≡◌, ◌∙◌, sym, ap, drop, List, ℕ}
use Rattle.std.specs.List.{remove}
use Rattle.event_sim.proofs.Members.{take_there, not_missed}
use Rattle.event_sim.proofs.node_set.take_out.Goals as goal

pub returns-in-Ok-clause-list : goal.returns-in-Ok-clause-list
returns-in-Ok-clause-list c = λ marks are within is.
    let same : c.list_from.result.now ≡ drop c.args.from c.args.slots.now.items = c.list_from.ensures ∙ ap (drop c.args.from) c.deref.ensures.value in
    let found = c.in-Ok.ensures.place marks (same ∙ are) in
    c.remove_at.ensures.list ∙ ap (λ (xs : List ℕ). remove xs c.in-Ok.place) (sym same)
    ∙ take_there marks c.list_from.result.now c.args.node c.in-Ok.place (same ∙ are) within is found.0 found.1

pub returns-in-Err-clause-list : goal.returns-in-Err-clause-list
returns-in-Err-clause-list c = λ marks are within is.
    let same : c.list_from.result.now ≡ drop c.args.from c.args.slots.now.items = c.list_from.ensures ∙ ap (drop c.args.from) c.deref.ensures.value in
    let found = c.in-Err.ensures.place marks (same ∙ are) in
    absurd (not_missed marks c.list_from.result.now c.args.node c.in-Err.field-0 (same ∙ are) within is found.1 found.2)
