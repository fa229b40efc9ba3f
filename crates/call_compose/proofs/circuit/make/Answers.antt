use Rattle.std.proofs.Common.{◌≡◌, ◌∙◌, ◌+◌, [], ◌∷◌, ◌++◌, Bool, List, length, ap, arith}
use Rattle.std.specs.Prelude.{if◌then◌else◌, codes}
use Rattle.std.proofs.lemmas.List.{length-map}
use Rattle.chp_syntax.specs.View.{program_tree as tree_of}
use Rattle.prs_core.specs.Nets.{NodeRules}
use Rattle.prs_core.specs.Pairs.{no_rules}
use Rattle.width_check.specs.Typed.{program_of}
use Rattle.net_compose.specs.Translation.{hidden_high, wires_from}
use Rattle.net_compose.proofs.CircuitNets.{circuit_is, circuit_holds}
use Rattle.net_compose.proofs.Composed.{written_over}
use Rattle.net_compose.proofs.NamesFree.{some_names_free}
use Rattle.net_compose.proofs.Raised.{with_raised}
use Rattle.call_map.specs.Calling.{called_size}
use Rattle.call_map.specs.CallNet.{inlined_program, procs_size, all_sites, call_names, call_firsts, call_rules}
use Rattle.call_compose.specs.Placing.{shared_of}
use Rattle.call_compose.proofs.SharedCircuits.{named, valued, wired}
use Rattle.call_compose.proofs.circuit.make.Goals as goal

pub invariant_of-result : goal.invariant_of-result
invariant_of-result c =
    let h = c.requires.inlined in
    let P = tree_of c.args.program.now in
    let p = program_of c.args.typed.now in
    let C = shared_of h in
    let whole = c.requires.own h in
    let named_all = c.in_ok-names.ensures ∙ ap (λ ns. ns ++ (if c.args.reset then codes "reset" ∷ [] else [])) (named P p h c.args.count whole) in
    let over = written_over c.drivers_of.new.first c.in_ok-first.first.items c.in_ok-first.first.len (omega
    (arith, c.drivers_of.ensures.count, ap (λ (l : List Bool). length l) c.deref_mut.ensures.value, c.in_ok-first.first.ok.0)) in
    let values = over ∙ valued P p h c.args.count whole c.in_ok-first.first.items c.drivers_of.new.first c.in_ok-first.ensures.values
    (c.in_ok-drivers.ensures.first h ∙ ap (λ vs. with_raised vs (all_sites C (hidden_high p))) c.deref_mut.ensures.value) in
    let net = c.calls_hold.ensures P h.tree h.inlined h.meets h.shaped h.accepted (omega (arith, whole, c.requires.few)) in
    let same : length (call_rules C) ≡ length (call_firsts C) = omega (arith, length-map (call_rules C) (λ (r : NodeRules). r.up), net.ups) in
    circuit_holds (call_names C) (call_firsts C) (call_rules C) (wires_from (inlined_program C) 0 C.channels) c.args.reset _ _ _ _ _ _ named_all values
    c.in_ok-at.ensures.first (c.in_ok-at.ensures.drivers ∙ ap (λ rs. rs ++ (if c.args.reset then no_rules ∷ [] else [])) (c.in_ok-drivers.ensures.made h))
    (wired P p h _ c.in_ok-channels.ensures) c.in_ok-at.ensures.at same net
    (some_names_free (inlined_program C) (procs_size (inlined_program C) C.procs + (2 + called_size C.procs (inlined_program C) C.body)))

pub returns : goal.returns
returns c h =
    let P = tree_of c.args.program.now in
    let p = program_of c.args.typed.now in
    let C = shared_of h in
    let whole = c.requires.own h in
    let named_all = c.in_ok-names.ensures ∙ ap (λ ns. ns ++ (if c.args.reset then codes "reset" ∷ [] else [])) (named P p h c.args.count whole) in
    let over = written_over c.drivers_of.new.first c.in_ok-first.first.items c.in_ok-first.first.len (omega
    (arith, c.drivers_of.ensures.count, ap (λ (l : List Bool). length l) c.deref_mut.ensures.value, c.in_ok-first.first.ok.0)) in
    let values = over ∙ valued P p h c.args.count whole c.in_ok-first.first.items c.drivers_of.new.first c.in_ok-first.ensures.values
    (c.in_ok-drivers.ensures.first h ∙ ap (λ vs. with_raised vs (all_sites C (hidden_high p))) c.deref_mut.ensures.value) in
    let net = c.calls_hold.ensures P h.tree h.inlined h.meets h.shaped h.accepted (omega (arith, whole, c.requires.few)) in
    let same : length (call_rules C) ≡ length (call_firsts C) = omega (arith, length-map (call_rules C) (λ (r : NodeRules). r.up), net.ups) in
    circuit_is (call_names C) (call_firsts C) (call_rules C) (wires_from (inlined_program C) 0 C.channels) c.args.reset _ _ _ _ _ _ named_all values
    c.in_ok-at.ensures.first (c.in_ok-at.ensures.drivers ∙ ap (λ rs. rs ++ (if c.args.reset then no_rules ∷ [] else [])) (c.in_ok-drivers.ensures.made h))
    (wired P p h _ c.in_ok-channels.ensures) c.in_ok-at.ensures.at same
