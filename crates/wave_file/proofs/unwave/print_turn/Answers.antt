use Rattle.std.proofs.Common.{◌∙◌, ◌<◌, refl, ap, false, [], length, arith}
use Rattle.std.proofs.lemmas.List.{get_or_default}
use Rattle.std.specs.Prelude.{slice_index_or}
use Rattle.wave_file.proofs.Printing.{turn_printed}
use Rattle.wave_file.proofs.unwave.print_turn.Goals as goal

pub returns-clause-printed : goal.returns-clause-printed
returns-clause-printed c =
    let t = c.args.told.now in
    let node = c.in-Some.node in
    let below : node < length t.values.items = omega (arith, c.requires.count, rw c.in-Some.is at c.requires.below) in
    let named = c.name_of_node.ensures ∙ ap (λ ns. slice_index_or ns node []) c.deref.ensures.value in
    rw c.in-Some.is (λ w is so_far. turn_printed c.args.printed.now _ t w t.time node c.name_of_node.result.now c.index-value.result.now is below named
    (c.index-value.ensures ∙ get_or_default t.values.items node c.index-value.result.now false below) c.in_ok-told_change.ensures refl so_far)
