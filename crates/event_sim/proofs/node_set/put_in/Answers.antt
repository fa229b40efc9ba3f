use Rattle.std.proofs.Common.{◌≡◌, ◌∙◌, sym, ap, drop, List, ℕ}
use Rattle.std.specs.List.{insert}
use Rattle.event_sim.proofs.Members.{put_there, not_found}
use Rattle.event_sim.proofs.node_set.put_in.Goals as goal

pub returns-in-Ok-clause-list : goal.returns-in-Ok-clause-list
returns-in-Ok-clause-list c = λ marks are within isnt.
    let same : c.list_from.result.now ≡ drop c.args.from c.args.slots.now.items = c.list_from.ensures ∙ ap (drop c.args.from) c.deref.ensures.value in
    let found = c.in-Ok.ensures.place marks (same ∙ are) in
    absurd (not_found marks c.list_from.result.now c.args.node c.in-Ok.field-0 (same ∙ are) isnt found.0 found.1)

pub returns-in-Err-clause-list : goal.returns-in-Err-clause-list
returns-in-Err-clause-list c = λ marks are within isnt.
    let same : c.list_from.result.now ≡ drop c.args.from c.args.slots.now.items = c.list_from.ensures ∙ ap (drop c.args.from) c.deref.ensures.value in
    let found = c.in-Err.ensures.place marks (same ∙ are) in
    c.insert_at.ensures.list ∙ ap (λ (xs : List ℕ). insert xs c.in-Err.place c.args.node) (sym same)
    ∙ put_there marks c.list_from.result.now c.args.node c.in-Err.place (same ∙ are) within isnt found.0 found.1 found.2
