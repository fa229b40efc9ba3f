use Rattle.std.proofs.Common.{◌≡◌, ◌∙◌, sym, ap, drop, length, get_or, List, ℕ, arith}
use Rattle.std.specs.List.{insert, remove}
use Rattle.event_sim.proofs.Members.{not_missed}
use Rattle.event_sim.proofs.Exchange.{exchanged}
use Rattle.event_sim.proofs.node_set.exchange.Goals as goal

pub returns-in-Ok-clause-list : goal.returns-in-Ok-clause-list
returns-in-Ok-clause-list c = λ marks are there is within isnt.
    let place = c.in-Ok.place in
    let to = c.place_after-to.result in
    let list = c.list_from-in-Ok.result.now in
    let first : c.list_from.result.now ≡ drop c.args.from c.args.slots.now.items = c.list_from.ensures ∙ ap (drop c.args.from) c.deref.ensures.value in
    let same : list ≡ drop c.args.from c.args.slots.now.items = c.list_from-in-Ok.ensures ∙ ap (drop c.args.from) c.deref-in-Ok.ensures.value in
    let found = c.in-Ok.ensures.place marks (first ∙ are) in
    let both : list ≡ c.list_from.result.now = same ∙ sym first in
    c.put_over.ensures.list ∙ ap (λ (xs : List ℕ). insert (remove xs place) to c.args.node) (sym same)
    ∙ exchanged marks list c.args.gone c.args.node place to (same ∙ are) there is within isnt (omega (arith, found.0, ap length both))
    (ap (λ (xs : List ℕ). get_or xs place 0) both ∙ found.1) (c.place_after-to.ensures.place marks (same ∙ are) isnt)

pub returns-in-Err-clause-list : goal.returns-in-Err-clause-list
returns-in-Err-clause-list c = λ marks are there is within isnt.
    let same : c.list_from.result.now ≡ drop c.args.from c.args.slots.now.items = c.list_from.ensures ∙ ap (drop c.args.from) c.deref.ensures.value in
    let found = c.in-Err.ensures.place marks (same ∙ are) in
    absurd (not_missed marks c.list_from.result.now c.args.gone c.in-Err.field-0 (same ∙ are) there is found.1 found.2)
