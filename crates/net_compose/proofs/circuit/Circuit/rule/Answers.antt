use Rattle.std.proofs.Common.{◌≡◌, ◌∙◌, ◌<◌, false, length, get_or, ap, sym, subst, arith}
use Rattle.std.specs.Prelude.{if◌then◌else◌}
use Rattle.std.proofs.lemmas.List.{get_or_read}
use Rattle.prs_core.specs.Nets.{NetValue, NodeRules, IsBelow, up_of, down_of}
use Rattle.prs_core.specs.Pairs.{no_rules}
use Rattle.reset_net.specs.Resets.{has_rules}
use Rattle.net_compose.specs.Circuits.{with_ending, ending_of, side}
use Rattle.net_compose.proofs.CircuitNets.{leads_back, rule_here, rule_near}
use Rattle.net_compose.proofs.circuit.Circuit.rule.Goals as goal

pub returns-clause-rule : goal.returns-clause-rule
returns-clause-rule c =
    let x = c.self.inside in
    let up = c.args.up in
    let node = c.args.node in
    let count = ap (λ (n : NetValue). length n.first) c.self.view_is in
    let within : node < length x.first.items = omega (arith, count, c.requires) in
    let many : node < length x.drivers.items = omega (arith, within, c.self.invariant.0) in
    let driver = c.index-driver.result.now in
    let back = c.leads_back-back.result in
    let here : driver ≡ get_or x.drivers.items node no_rules = get_or_read x.drivers.items node _ many c.index-driver.ensures no_rules in
    let high : c.index.result.now ≡ get_or x.first.items node false = get_or_read x.first.items node _ within c.index.ensures false in
    let ending : c.ending_of-ending.result ≡ ending_of x.reset (has_rules driver.up driver.down) (leads_back up c.index.result.now) =
    c.ending_of-ending.ensures ∙ (ap (λ b. ending_of x.reset b back) c.has_rules.ensures
    ∙ ap (λ b. ending_of x.reset (has_rules driver.up driver.down) b) c.leads_back-back.ensures) in
    ap (λ (n : NetValue). if up then up_of n node else down_of n node) (sym c.self.view_is)
    ∙ (rule_here x.names x.reset up x.first.items x.drivers.items x.channels.items node c.self.invariant.0 within
    ∙ (ap (λ (r : NodeRules). with_ending (ending_of x.reset (has_rules r.up r.down) (leads_back up (get_or x.first.items node false))) (side up r)) (sym here)
    ∙ (ap (λ h. with_ending (ending_of x.reset (has_rules driver.up driver.down) (leads_back up h)) (side up driver)) (sym high)
    ∙ ap (λ e. with_ending e (side up driver)) (sym ending))))

pub returns-clause-up : goal.returns-clause-up
returns-clause-up c =
    let x = c.self.inside in
    let count = ap (λ (n : NetValue). length n.first) c.self.view_is in
    let within : c.args.node < length x.first.items = omega (arith, count, c.requires) in
    let many : c.args.node < length x.drivers.items = omega (arith, within, c.self.invariant.0) in
    let here : c.index-driver.result.now ≡ get_or x.drivers.items c.args.node no_rules =
    get_or_read x.drivers.items c.args.node _ many c.index-driver.ensures no_rules in
    let near = rule_near x.names x.reset x.first.items x.drivers.items x.channels.items c.args.node c.self.invariant.1 c.self.invariant.0 within in
    subst (λ n. IsBelow n c.index-driver.result.now.up) count (subst (λ (r : NodeRules). IsBelow (length x.first.items) r.up) (sym here) near.0)

pub returns-clause-down : goal.returns-clause-down
returns-clause-down c =
    let x = c.self.inside in
    let count = ap (λ (n : NetValue). length n.first) c.self.view_is in
    let within : c.args.node < length x.first.items = omega (arith, count, c.requires) in
    let many : c.args.node < length x.drivers.items = omega (arith, within, c.self.invariant.0) in
    let here : c.index-driver.result.now ≡ get_or x.drivers.items c.args.node no_rules =
    get_or_read x.drivers.items c.args.node _ many c.index-driver.ensures no_rules in
    let near = rule_near x.names x.reset x.first.items x.drivers.items x.channels.items c.args.node c.self.invariant.1 c.self.invariant.0 within in
    subst (λ n. IsBelow n c.index-driver.result.now.down) count (subst (λ (r : NodeRules). IsBelow (length x.first.items) r.down) (sym here) near.1)
