use Rattle.std.proofs.Common.{◌≡◌, ◌∙◌, ◌+◌, [], length, ap, sym, subst, arith}
use Rattle.prs_core.specs.Nets.{RulesValue, IsBelow}
use Rattle.net_compose.proofs.NetWritten.{none_written, written_length, written_more, all_written}
use Rattle.net_compose.proofs.net.rules_in.Goals as goal

pub loop-node-init : goal.loop-node-init
loop-node-init c =
    let net = c.args.circuit.now in
    let whole = c.first.ensures.net in
    let count = ap length c.first.ensures.first in
    record {
      up = ap (λ (r : RulesValue). r.up) c.in_ok-rules.ensures ∙ none_written [] net.up _ (omega (arith, count, whole.ups));
      down = ap (λ (r : RulesValue). r.down) c.in_ok-rules.ensures ∙ none_written [] net.down _ (omega (arith, count, whole.downs));
    }

pub set_up-requires-clause-node : goal.set_up-requires-clause-node
set_up-requires-clause-node c =
    let net = c.args.circuit.now in
    let long : length c.loop-node.rules.up ≡ length net.up = ap length c.loop-node.invariant.up ∙ written_length [] c.loop-node.node net.up in
    let count = ap length c.first.ensures.first in
    omega (arith, long, count, c.first.ensures.net.ups, c.loop-node-test.true)

pub set_up-requires-clause-within : goal.set_up-requires-clause-within
set_up-requires-clause-within c =
    let net = c.args.circuit.now in
    let whole = c.first.ensures.net in
    let long : length c.loop-node.rules.up ≡ length net.up = ap length c.loop-node.invariant.up ∙ written_length [] c.loop-node.node net.up in
    let count = ap length c.first.ensures.first in
    let near = whole.up_within c.loop-node.node [] (omega (arith, count, whole.ups, c.loop-node-test.true)) in
    let is : c.in_ok-up.up ≡ _ = c.in_ok-up.ensures ∙ c.driver-driver.ensures.up in
    subst (λ n. IsBelow n c.in_ok-up.up) (sym (long ∙ whole.ups)) (subst (IsBelow (length net.first)) (sym is) near)

pub set_down-requires-clause-node : goal.set_down-requires-clause-node
set_down-requires-clause-node c =
    let net = c.args.circuit.now in
    let more = written_more [] c.loop-node.node net.up c.loop-node.rules.up c.set_up.new.self.up c.in_ok-up.up []
    (omega (arith, ap length c.first.ensures.first, c.first.ensures.net.ups, c.loop-node-test.true)) (c.in_ok-up.ensures ∙ c.driver-driver.ensures.up)
    c.loop-node.invariant.up (ap (λ (r : RulesValue). r.up) c.set_up.ensures) in
    let long : length c.set_up.new.self.up ≡ length net.up = ap length more ∙ written_length [] (c.loop-node.node + 1) net.up in
    let count = ap length c.first.ensures.first in
    omega (arith, long, count, c.first.ensures.net.ups, c.loop-node-test.true)

pub set_down-requires-clause-within : goal.set_down-requires-clause-within
set_down-requires-clause-within c =
    let net = c.args.circuit.now in
    let whole = c.first.ensures.net in
    let count = ap length c.first.ensures.first in
    let within = c.loop-node-test.true in
    let more = written_more [] c.loop-node.node net.up c.loop-node.rules.up c.set_up.new.self.up c.in_ok-up.up []
    (omega (arith, count, whole.ups, within)) (c.in_ok-up.ensures ∙ c.driver-driver.ensures.up) c.loop-node.invariant.up
    (ap (λ (r : RulesValue). r.up) c.set_up.ensures) in
    let long : length c.set_up.new.self.up ≡ length net.up = ap length more ∙ written_length [] (c.loop-node.node + 1) net.up in
    let near = whole.down_within c.loop-node.node [] (omega (arith, count, whole.downs, within)) in
    let is : c.in_ok-down.down ≡ _ = c.in_ok-down.ensures ∙ c.driver-driver.ensures.down in
    subst (λ n. IsBelow n c.in_ok-down.down) (sym (long ∙ whole.ups)) (subst (IsBelow (length net.first)) (sym is) near)

pub loop-node-preserved : goal.loop-node-preserved
loop-node-preserved c =
    let net = c.args.circuit.now in
    let whole = c.first.ensures.net in
    let count = ap length c.first.ensures.first in
    let within = c.loop-node-test.true in
    record {
      up = ap (λ (r : RulesValue). r.up) c.set_down.ensures
          ∙ written_more [] c.loop-node.node net.up c.loop-node.rules.up c.set_up.new.self.up c.in_ok-up.up []
          (omega (arith, count, whole.ups, within)) (c.in_ok-up.ensures ∙ c.driver-driver.ensures.up) c.loop-node.invariant.up
          (ap (λ (r : RulesValue). r.up) c.set_up.ensures);
      down = written_more [] c.loop-node.node net.down c.set_up.new.self.down c.set_down.new.self.down c.in_ok-down.down []
          (omega (arith, count, whole.downs, within)) (c.in_ok-down.ensures ∙ c.driver-driver.ensures.down)
          (ap (λ (r : RulesValue). r.down) c.set_up.ensures ∙ c.loop-node.invariant.down) (ap (λ (r : RulesValue). r.down) c.set_down.ensures);
    }

pub returns : goal.returns
returns c =
    let net = c.args.circuit.now in
    let whole = c.first.ensures.net in
    let count = ap length c.first.ensures.first in
    let up : c.loop-node.rules.up ≡ net.up = c.loop-node.invariant.up
    ∙ all_written [] c.loop-node.node net.up (omega (arith, count, whole.ups, c.loop-node-test.false)) in
    let down : c.loop-node.rules.down ≡ net.down = c.loop-node.invariant.down
    ∙ all_written [] c.loop-node.node net.down (omega (arith, count, whole.downs, c.loop-node-test.false)) in
    ap (λ u. record { up = u; down = c.loop-node.rules.down }) up ∙ ap (λ d. record { up = net.up; down = d }) down
