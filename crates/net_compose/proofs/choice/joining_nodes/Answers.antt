use Rattle.std.proofs.Common.{◌∙◌, ◌+◌, [], ◌∷◌, ◌++◌, ap}
use Rattle.std.specs.List.{range_with_len}
use Rattle.prs_core.specs.Pairs.{no_rules, or_of}
use Rattle.cell_sequence.specs.Sequence.{q_child}
use Rattle.net_compose.proofs.BodyWritten.{on_ok}
use Rattle.net_compose.proofs.ChoiceDriven.{three_on}
use Rattle.net_compose.proofs.choice.joining_nodes.Goals as goal

pub returns : goal.returns
returns c =
    let from = c.args.from in
    on_ok c.add-3.result
    (λ last. three_on c.args.drivers.now.items c.add.new.drivers.items c.add-2.new.drivers.items c.add-3.new.drivers.items no_rules
    (q_child c.args.request (from + 2)) (or_of (range_with_len (from + 3) c.args.count))
    (c.in_ok-add.ensures ∙ ap (λ d. c.args.drivers.now.items ++ d ∷ []) c.undriven.ensures)
    (c.in_ok-add-2.ensures ∙ ap (λ d. c.add.new.drivers.items ++ d ∷ []) c.child.ensures)
    (last ∙ (ap (λ d. c.add-2.new.drivers.items ++ d ∷ []) c.any.ensures
    ∙ ap (λ ns. c.add-2.new.drivers.items ++ or_of ns ∷ []) c.in_ok-numbered_nodes.ensures)))
    c.add-3.ensures
