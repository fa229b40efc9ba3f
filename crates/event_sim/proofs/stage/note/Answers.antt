use Rattle.std.proofs.Common.{◌∙◌, ◌<◌, ap, sym, length, arith, List, ℕ, map}
use Rattle.event_sim.specs.Passing.{channel_histories}
use Rattle.event_sim.proofs.Histories.{count_few, count_more}
use Rattle.event_sim.proofs.stage.note.Goals as goal

pub overflow_add-index_mut : goal.overflow_add-index_mut
overflow_add-index_mut c =
    let within : c.in-Some.chan < length c.args.done.now.items = rw c.in-Some.is at c.requires.chan in
    let few = count_few (length c.args.done.now.items) c.args.passed.now.items c.args.done.now.items c.in-Some.chan c.index_mut.result.now c.requires.counts
    within in
    omega (arith, few, c.index_mut.ensures.value, c.args.passed.now.ok.0, c.args.passed.now.small)

pub returns-in-Some-clause-counts : goal.returns-in-Some-clause-counts
returns-in-Some-clause-counts c =
    let within : c.in-Some.chan < length c.args.done.now.items = rw c.in-Some.is at c.requires.chan in
    let more = count_more (length c.args.done.now.items) c.args.passed.now.items c.args.done.now.items c.in-Some.chan c.in-Some.value c.index_mut.result.now
    c.requires.counts within c.index_mut.ensures.value in
    more ∙ ap (λ ps. map (λ (h : List ℕ). length h) (channel_histories (length c.args.done.now.items) ps)) (sym c.push_reserved.ensures.items)
