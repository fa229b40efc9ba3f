use Rattle.std.proofs.Common.{◌≤◌, ℕ, List, length, ap, arith}
use Rattle.std.specs.Prelude.{Option, Some, None}
use Rattle.prs_core.specs.declared.wires.Wires.{Wires}
use Rattle.prs_core.specs.Nets.{most_nodes}
use Rattle.env_script.proofs.Wires.{few_channels}
use Rattle.bench_commands.proofs.bench.notes_for.Goals as goal

few_nodes : (reset : Option ℕ) → most_nodes reset ≤ 65537
few_nodes None = omega arith
few_nodes (Some node) = omega arith

pub overflow_cast-result : goal.overflow_cast-result
overflow_cast-result c =
    let net = c.args.net.now in
    let few = few_channels net c.channels.ensures.net in
    let most = few_nodes net.reset in
    omega (arith, few, most, c.channels.ensures.net.most, ap (λ (ws : List Wires). length ws) c.channels.ensures.channels)

pub overflow_add-result-2 : goal.overflow_add-result-2
overflow_add-result-2 c =
    let net = c.args.net.now in
    let few = few_channels net c.channels.ensures.net in
    let most = few_nodes net.reset in
    omega (arith, few, most, c.channels.ensures.net.most, c.requires, ap (λ (ws : List Wires). length ws) c.channels.ensures.channels)
