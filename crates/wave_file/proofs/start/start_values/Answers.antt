use Rattle.std.proofs.Common.{◌≡◌, ℕ, ◌+◌, ◌<◌, Bool, List, [], ◌∷◌, ◌++◌, length, take, ap, sym, ◌∙◌, arith}
use Rattle.std.proofs.lemmas.List.{take_all, take_more}
use Rattle.prs_core.specs.Moves.{high}
use Rattle.event_sim.specs.Following.{power_of}
use Rattle.wave_file.proofs.start.start_values.Goals as goal

one_more : (state values more : List Bool) (node : ℕ) (value : Bool) → node < length state → values ≡ take node state → value ≡ high state node →
    more ≡ values ++ value ∷ [] → more ≡ take (node + 1) state
one_more state values more node value within front here pushed =
    pushed ∙ ap (λ (vs : List Bool). vs ++ value ∷ []) front ∙ ap (λ (v : Bool). take node state ++ v ∷ []) here ∙ sym (take_more state node _ within)

pub is_high-requires : goal.is_high-requires
is_high-requires c = omega (arith, c.in_ok-state.ensures.count, ap length c.first-nodes.ensures.first, c.loop-node-test.true)

pub loop-node-preserved : goal.loop-node-preserved
loop-node-preserved c =
    let node = c.loop-node.node in
    let is = c.in_ok-state.ensures.values in
    one_more (power_of c.args.net.now c.args.high) c.loop-node.values.items _ node c.is_high.result
    (omega (arith, ap length is, c.in_ok-state.ensures.count, ap length c.first-nodes.ensures.first, c.loop-node-test.true)) c.loop-node.invariant
    (c.is_high.ensures ∙ ap (λ (s : List Bool). high s node) is) c.in_ok-push.ensures.items

pub returns-clause-values : goal.returns-clause-values
returns-clause-values c =
    let is = c.in_ok-state.ensures.values in
    c.loop-node.invariant ∙ take_all _ (power_of c.args.net.now c.args.high)
    (omega (arith, ap length is, c.in_ok-state.ensures.count, ap length c.first-nodes.ensures.first, c.loop-node-test.false))
