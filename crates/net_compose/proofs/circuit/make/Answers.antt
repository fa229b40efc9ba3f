use Rattle.std.proofs.Common.{◌≡◌, ◌∙◌, [], ◌∷◌, ◌++◌, Bool, false, List, length, ap, sym, arith}
use Rattle.std.specs.Prelude.{if◌then◌else◌, codes, replicate}
use Rattle.std.proofs.lemmas.List.{length-map}
use Rattle.prs_core.specs.Nets.{NodeRules}
use Rattle.prs_core.specs.Pairs.{no_rules}
use Rattle.width_check.specs.Typed.{program_of}
use Rattle.handshake_expand.specs.Layout.{nodes_of}
use Rattle.handshake_expand.specs.Named.{node_names}
use Rattle.handshake_expand.specs.Sites.{in_body}
use Rattle.net_compose.specs.Translation.{all_rules, hidden_high, vars_high, first_values, wires_from}
use Rattle.net_compose.proofs.Raised.{with_raised}
use Rattle.net_compose.proofs.Composed.{all_values, written_over}
use Rattle.net_compose.proofs.NamesFree.{names_free}
use Rattle.net_compose.proofs.NamesPushed.{program_names}
use Rattle.net_compose.proofs.CircuitNets.{circuit_is, circuit_holds}
use Rattle.net_compose.proofs.circuit.make.Goals as goal

pub drivers_of-requires-clause-own : goal.drivers_of-requires-clause-own
drivers_of-requires-clause-own c = omega
    (arith, ap (λ (l : List Bool). length l) c.deref_mut.ensures.value, c.in_ok-first.ensures.count, c.count_nodes-count.ensures, c.requires)

pub invariant_of-result : goal.invariant_of-result
invariant_of-result c =
    let p = program_of c.args.program.now in
    let many : c.count_nodes-count.result ≡ nodes_of p = omega (arith, c.count_nodes-count.ensures, c.requires) in
    let named = c.in_ok-names.ensures ∙ ap (λ ns. ns ++ (if c.args.reset then codes "reset" ∷ [] else [])) (program_names p _ many) in
    let size = c.all_counted.ensures p c.body-kept.ensures.typed in
    let over = written_over c.drivers_of.new.first c.in_ok-first.first.items c.in_ok-first.first.len (omega
    (arith, c.drivers_of.ensures.count, ap (λ (l : List Bool). length l) c.deref_mut.ensures.value, c.in_ok-first.first.ok.0)) in
    let low = c.in_ok-first.ensures.values ∙ ap (λ n. with_raised (replicate n false) (vars_high p 0 p.vars)) many in
    let values = over ∙ all_values p c.in_ok-first.first.items c.drivers_of.new.first low
    (c.in_ok-drivers.ensures.first ∙ ap (λ vs. with_raised vs (in_body p (hidden_high p))) c.deref_mut.ensures.value) in
    circuit_holds (node_names p) (first_values p) (all_rules p) (wires_from p 0 p.channels) c.args.reset _ _ _ _ _ _ named values c.in_ok-at.ensures.first
    (c.in_ok-at.ensures.drivers ∙ ap (λ rs. rs ++ (if c.args.reset then no_rules ∷ [] else [])) c.in_ok-drivers.ensures.made) c.in_ok-channels.ensures
    c.in_ok-at.ensures.at (sym (length-map (all_rules p) (λ (r : NodeRules). r.up)) ∙ (size.up ∙ sym size.first))
    (c.whole_nets.ensures p c.body-kept.ensures.typed c.requires) (names_free p)

pub returns : goal.returns
returns c =
    let p = program_of c.args.program.now in
    let many : c.count_nodes-count.result ≡ nodes_of p = omega (arith, c.count_nodes-count.ensures, c.requires) in
    let named = c.in_ok-names.ensures ∙ ap (λ ns. ns ++ (if c.args.reset then codes "reset" ∷ [] else [])) (program_names p _ many) in
    let size = c.all_counted.ensures p c.body-kept.ensures.typed in
    let over = written_over c.drivers_of.new.first c.in_ok-first.first.items c.in_ok-first.first.len (omega
    (arith, c.drivers_of.ensures.count, ap (λ (l : List Bool). length l) c.deref_mut.ensures.value, c.in_ok-first.first.ok.0)) in
    let low = c.in_ok-first.ensures.values ∙ ap (λ n. with_raised (replicate n false) (vars_high p 0 p.vars)) many in
    let values = over ∙ all_values p c.in_ok-first.first.items c.drivers_of.new.first low
    (c.in_ok-drivers.ensures.first ∙ ap (λ vs. with_raised vs (in_body p (hidden_high p))) c.deref_mut.ensures.value) in
    circuit_is (node_names p) (first_values p) (all_rules p) (wires_from p 0 p.channels) c.args.reset _ _ _ _ _ _ named values c.in_ok-at.ensures.first
    (c.in_ok-at.ensures.drivers ∙ ap (λ rs. rs ++ (if c.args.reset then no_rules ∷ [] else [])) c.in_ok-drivers.ensures.made) c.in_ok-channels.ensures
    c.in_ok-at.ensures.at (sym (length-map (all_rules p) (λ (r : NodeRules). r.up)) ∙ (size.up ∙ sym size.first))
