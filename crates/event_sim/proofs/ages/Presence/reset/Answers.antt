use Rattle.std.proofs.Common.{◌≡◌, ◌∙◌, ℕ, List, length, replicate, ap, arith}
use Rattle.std.proofs.lemmas.List.{length-replicate}
use Rattle.event_sim.specs.Ages.{ages_at}
use Rattle.event_sim.proofs.Aging.{none_aged}
use Rattle.event_sim.proofs.ages.Presence.reset.Goals as goal

pub returns-clause-ages : goal.returns-clause-ages
returns-clause-ages c = λ now.
    let kept = c.loop-node.invariant in
    let since = c.loop-node.self.since.items in
    let long : length since ≡ c.args.count = omega (
      arith,
      ap length kept.since,
      length-replicate {A = ℕ} c.loop-node._node 0,
      c.loop-node-test.false,
      c.loop-node.auto._node-end,
    ) in
    ap (λ (xs : List ℕ). ages_at now since xs) kept.list ∙ none_aged now since ∙ ap (λ (n : ℕ). replicate n 0) long
