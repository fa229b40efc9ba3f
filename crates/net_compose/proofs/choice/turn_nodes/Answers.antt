use Rattle.std.proofs.Common.{◌∙◌, ◌+◌, [], ◌∷◌, ◌++◌, ap}
use Rattle.std.specs.List.{range_with_len}
use Rattle.prs_core.specs.Pairs.{no_rules, or_of, rails_of}
use Rattle.cell_sequence.specs.Sequence.{q_child}
use Rattle.cell_select.specs.Selections.{turn_request}
use Rattle.net_compose.specs.Drivers.{wanted_latch, let_go}
use Rattle.net_compose.specs.Wanted.{all_unwanted}
use Rattle.net_compose.proofs.BodyWritten.{on_ok}
use Rattle.net_compose.proofs.ChoiceDriven.{six_on}
use Rattle.net_compose.proofs.choice.turn_nodes.Goals as goal

pub returns : goal.returns
returns c =
    let from = c.args.from in
    let turn = from + 1 in
    let any = from + 4 in
    let leave = from + 5 in
    on_ok c.add-6.result
    (λ last. six_on c.args.drivers.now.items c.add.new.drivers.items c.add-2.new.drivers.items c.add-3.new.drivers.items c.add-4.new.drivers.items
    c.add-5.new.drivers.items c.add-6.new.drivers.items (let_go leave any (rails_of c.args.guards.now)) (turn_request c.args.request (from + 2)) no_rules
    (q_child turn any) (or_of (range_with_len leave (c.args.count + 1))) (wanted_latch turn (all_unwanted c.args.guards.now))
    (c.in_ok-add.ensures ∙ (ap (λ d. c.args.drivers.now.items ++ d ∷ []) c.started.ensures
    ∙ ap (λ rails. c.args.drivers.now.items ++ let_go leave any rails ∷ []) c.in_ok-rails_of.ensures))
    (c.in_ok-add-2.ensures ∙ ap (λ d. c.add.new.drivers.items ++ d ∷ []) c.turn.ensures)
    (c.in_ok-add-3.ensures ∙ ap (λ d. c.add-2.new.drivers.items ++ d ∷ []) c.undriven.ensures)
    (c.in_ok-add-4.ensures ∙ ap (λ d. c.add-3.new.drivers.items ++ d ∷ []) c.child.ensures)
    (c.in_ok-add-5.ensures ∙ (ap (λ d. c.add-4.new.drivers.items ++ d ∷ []) c.any.ensures
    ∙ ap (λ ns. c.add-4.new.drivers.items ++ or_of ns ∷ []) c.in_ok-numbered_nodes.ensures))
    (last ∙ (ap (λ d. c.add-5.new.drivers.items ++ d ∷ []) c.wanted.ensures
    ∙ ap (λ ns. c.add-5.new.drivers.items ++ wanted_latch turn ns ∷ []) c.in_ok-all_unwanted.ensures)))
    c.add-6.ensures
