use Rattle.std.proofs.Common.{◌<◌, not, sym, ap, ◌∙◌, length, arith}
use Rattle.prs_core.specs.Moves.{high, rule_enabled}
use Rattle.env_script.proofs.Loops.{all_below_fails}
use Rattle.env_script.proofs.environment.rules_rest.Goals as goal

pub returns-then-enabled : goal.returns-then-enabled
returns-then-enabled c =
    let net = c.args.net.now in
    let within : c.loop-node.node < length net.first = omega (arith, ap length c.first.ensures.first) in
    sym (all_below_fails (length net.first) c.loop-node.node (λ n. not (rule_enabled net (high c.args.state.now) n)) within
    (ap not (sym c.enabled.ensures ∙ c.if-enabled.true)))
