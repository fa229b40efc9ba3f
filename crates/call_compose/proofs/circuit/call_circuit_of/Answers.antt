use Rattle.std.proofs.Common.{rules, ◌≡◌, ◌∙◌, ap}
use Rattle.chp_syntax.specs.View.{program_tree as tree_of}
use Rattle.width_check.specs.Typed.{TypedValue, program_of}
use Rattle.handshake_expand.specs.Layout.{capped, node_count}
use Rattle.call_map.specs.CallNet.{call_count}
use Rattle.call_compose.specs.Placing.{shared_of}
use Rattle.call_compose.proofs.SharedFacts.{moved}
use Rattle.call_compose.proofs.circuit.call_circuit_of.Goals as goal

pub returns-then-most-gt-MOST_NODES-clause-count : goal.returns-then-most-gt-MOST_NODES-clause-count
returns-then-most-gt-MOST_NODES-clause-count c h =
    let k = moved (tree_of c.args.program.now) (program_of c.typed-typed.result.now) (program_of c.args.inlined.now)
    (ap program_of c.typed-typed.ensures.program) h in
    let count : c.shared_nodes-count.result ≡ capped (call_count (shared_of h)) = c.shared_nodes-count.ensures k in
    let copies : c.count_nodes-copies.result ≡ node_count (program_of c.args.inlined.now) =
    c.count_nodes-copies.ensures ∙ ap (λ (v : TypedValue). node_count (program_of v)) c.typed-typed.ensures.program in
    search rules

pub returns-then-most-gt-MOST_NODES-clause-too_many : goal.returns-then-most-gt-MOST_NODES-clause-too_many
returns-then-most-gt-MOST_NODES-clause-too_many c h =
    let k = moved (tree_of c.args.program.now) (program_of c.typed-typed.result.now) (program_of c.args.inlined.now)
    (ap program_of c.typed-typed.ensures.program) h in
    let count : c.shared_nodes-count.result ≡ capped (call_count (shared_of h)) = c.shared_nodes-count.ensures k in
    let copies : c.count_nodes-copies.result ≡ node_count (program_of c.args.inlined.now) =
    c.count_nodes-copies.ensures ∙ ap (λ (v : TypedValue). node_count (program_of v)) c.typed-typed.ensures.program in
    search rules

pub returns-in-Ok-make-clause-net : goal.returns-in-Ok-make-clause-net
returns-in-Ok-make-clause-net c h =
    let k = moved (tree_of c.args.program.now) (program_of c.typed-typed.result.now) (program_of c.args.inlined.now)
    (ap program_of c.typed-typed.ensures.program) h in
    c.in-Ok-make.ensures k

pub returns-in-Ok-make-clause-fits : goal.returns-in-Ok-make-clause-fits
returns-in-Ok-make-clause-fits c h =
    let k = moved (tree_of c.args.program.now) (program_of c.typed-typed.result.now) (program_of c.args.inlined.now)
    (ap program_of c.typed-typed.ensures.program) h in
    let count : c.shared_nodes-count.result ≡ capped (call_count (shared_of h)) = c.shared_nodes-count.ensures k in
    let copies : c.count_nodes-copies.result ≡ node_count (program_of c.args.inlined.now) =
    c.count_nodes-copies.ensures ∙ ap (λ (v : TypedValue). node_count (program_of v)) c.typed-typed.ensures.program in
    search rules
